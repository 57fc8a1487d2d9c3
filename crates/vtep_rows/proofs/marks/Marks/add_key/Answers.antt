use Rattle.std.proofs.Common.{◌+◌, ap, ◌∙◌}
use Rattle.vtep_rows.specs.Tallies.{count_at}
use Rattle.vtep_rows.specs.Marks.{times}
use Rattle.vtep_rows.proofs.TallyLaws.{ok_so}
use Rattle.vtep_rows.proofs.MarkCounts.{mark_raised}
use Rattle.vtep_rows.proofs.marks.Marks.add_key.Goals as goal

pub returns-in-Some-clause-ok : goal.returns-in-Some-clause-ok
returns-in-Some-clause-ok c =
    ok_so c.raise.result (λ e q.
    ap (λ m. count_at m q) e ∙ mark_raised c.args.self.now q (c.args.table, c.args.id) c.args.place c.in-Some.stamp
    ∙ ap (λ o. count_at c.args.self.now q + times q (c.args.table, c.args.id) c.args.place o) c.in-Some.ensures) c.raise.ensures.ok
