use Rattle.std.proofs.Common.{◌+◌, sym, subst, ◌∙◌}
use Rattle.vtep_base.specs.Maps as maps
use Rattle.vtep_base.proofs.Held.{one_given}
use Rattle.vtep_rows.specs.Marks.{IsNumbered}
use Rattle.vtep_rows.specs.MarkOrders.{mark_total, mark_exact}
use Rattle.vtep_rows.proofs.Places.{numbered_put}
use Rattle.vtep_rows.proofs.marks.Marks.raise.Goals as goal

pub invariant_of-self-2 : goal.invariant_of-self-2
invariant_of-self-2 c =
    subst IsNumbered (sym (one_given mark_total mark_exact c.self.inside.by_mark.entries c.insert.new.self.entries (c.args.table, c.args.place, c.args.stamp.number, c.args.stamp.id, c.args.row) (c.of-n.result + 1) c.in_ok-insert.ensures.updates.0))
    (numbered_put (maps.of_list c.self.inside.by_mark.entries) (c.args.table, c.args.place, c.args.stamp.number, c.args.stamp.id, c.args.row) (c.of-n.result + 1) c.ranges.row.fits c.self.invariant)

pub returns-clause-ok : goal.returns-clause-ok
returns-clause-ok c =
    one_given mark_total mark_exact c.self.inside.by_mark.entries c.insert.new.self.entries (c.args.table, c.args.place, c.args.stamp.number, c.args.stamp.id, c.args.row) (c.of-n.result + 1) c.in_ok-insert.ensures.updates.0
    ∙ (λ i. maps.insert (c.self.view_is i) (c.args.table, c.args.place, c.args.stamp.number, c.args.stamp.id, c.args.row) (c.of-n.ensures i + 1))
