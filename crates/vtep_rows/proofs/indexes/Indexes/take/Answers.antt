use Rattle.std.proofs.Common.{ap, ◌∙◌}
use Rattle.vtep_rows.specs.Row.{references}
use Rattle.vtep_rows.specs.Tallies.{count_at}
use Rattle.vtep_rows.proofs.NameCounts.{lowered_each}
use Rattle.vtep_rows.proofs.IndexLaws.{taken}
use Rattle.vtep_rows.proofs.indexes.Indexes.take.Goals as goal

pub returns : goal.returns
returns c =
    taken c.args.self.now (record { names = c.lower_row.new.self; marks = c.take_row.new.self; sizes = c.lower.new.self }) (c.args.table, c.args.id) c.args.row.now
    (λ q t. ap (λ m. count_at m (q.0, q.1, t)) c.lower_row.ensures ∙ lowered_each c.args.self.now.names c.args.table t q (references c.args.row.now)) c.take_row.ensures c.lower.ensures
