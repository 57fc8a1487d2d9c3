use Rattle.std.proofs.Common.{◌+◌, ap, ◌∙◌, refl}
use Rattle.vtep_rows.specs.Row.{references}
use Rattle.vtep_rows.specs.Tallies.{count_at}
use Rattle.vtep_rows.specs.Names.{named_by}
use Rattle.vtep_rows.proofs.NameCounts.{lowered_each}
use Rattle.vtep_rows.proofs.IndexLaws.{untouched}
use Rattle.vtep_rows.proofs.indexes.Indexes.add.Goals as goal

pub returns-in_default-clause-err : goal.returns-in_default-clause-err
returns-in_default-clause-err c =
    untouched c.args.self.now (record { names = c.lower_row.new.self; marks = c.add_row-marked.new.self; sizes = c.args.self.now.sizes }) (c.args.table, c.args.id) c.args.row.now c.raise_all.new.self
    (λ q t. c.in_ok-raise_all.ensures.ok q t ∙ ap (λ ks. count_at c.args.self.now.names (q.0, q.1, t) + named_by c.args.table t q ks) (c.as_slice.ensures ∙ c.in_ok-named.ensures))
    (λ q t. ap (λ m. count_at m (q.0, q.1, t)) c.lower_row.ensures ∙ lowered_each c.raise_all.new.self c.args.table t q (references c.args.row.now)) c.in_default.ensures.err refl
