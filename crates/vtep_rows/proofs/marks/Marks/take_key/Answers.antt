use Rattle.std.proofs.Common.{◌-◌, ap, ◌∙◌}
use Rattle.vtep_rows.specs.Tallies.{count_at}
use Rattle.vtep_rows.specs.Marks.{times}
use Rattle.vtep_rows.proofs.MarkCounts.{mark_lowered}
use Rattle.vtep_rows.proofs.marks.Marks.take_key.Goals as goal

pub returns-in-Some : goal.returns-in-Some
returns-in-Some c = λ q.
    ap (λ m. count_at m q) c.lower.ensures ∙ mark_lowered c.args.self.now q (c.args.table, c.args.id) c.args.place c.in-Some.stamp
    ∙ ap (λ o. count_at c.args.self.now q - times q (c.args.table, c.args.id) c.args.place o) c.in-Some.ensures
