use Rattle.std.proofs.Common.{◌≡◌, ◌-◌, sym, ap, subst, ◌∙◌}
use Rattle.vtep_base.specs.Maps as maps
use Rattle.vtep_base.proofs.Held.{one_given, one_gone, get-held}
use Rattle.vtep_rows.specs.Tallies.{count_at}
use Rattle.vtep_rows.specs.Marks.{mark_cmp, IsNumbered}
use Rattle.vtep_rows.specs.MarkOrders.{mark_total, mark_exact}
use Rattle.vtep_rows.proofs.TallyLaws.{lowered_gone, lowered_left, never, sure}
use Rattle.vtep_rows.proofs.Places.{numbered_put, numbered_remove}
use Rattle.vtep_rows.proofs.marks.Marks.lower.Goals as goal
use Rattle.vtep_rows.proofs.marks.Marks.lower.Goals.{After-insert}

pub invariant_of-self : goal.invariant_of-self
invariant_of-self c =
    subst IsNumbered (sym (one_gone mark_total mark_exact c.self.inside.by_mark.entries c.remove.new.self.entries (c.args.table, c.args.place, c.args.stamp.number, c.args.stamp.id, c.args.row) c.remove.ensures.updates.0))
    (numbered_remove (maps.of_list c.self.inside.by_mark.entries) (c.args.table, c.args.place, c.args.stamp.number, c.args.stamp.id, c.args.row) c.self.invariant)

pub returns-then-n-le1 : goal.returns-then-n-le1
returns-then-n-le1 c =
    one_gone mark_total mark_exact c.self.inside.by_mark.entries c.remove.new.self.entries (c.args.table, c.args.place, c.args.stamp.number, c.args.stamp.id, c.args.row) c.remove.ensures.updates.0
    ∙ ap (λ m. maps.remove m (c.args.table, c.args.place, c.args.stamp.number, c.args.stamp.id, c.args.row)) c.self.view_is
    ∙ lowered_gone c.args.self.now (c.args.table, c.args.place, c.args.stamp.number, c.args.stamp.id, c.args.row) c.of-n.result c.of-n.ensures c.if-n-le1.true

-- a key that is there can be put in
put : (c : After-insert) → maps.of_list {R = mark_cmp} c.insert.new.self.entries ≡ maps.insert (maps.of_list c.self.inside.by_mark.entries) (c.args.table, c.args.place, c.args.stamp.number, c.args.stamp.id, c.args.row) (c.of-n.result - 1)
put c =
    one_given mark_total mark_exact c.self.inside.by_mark.entries c.insert.new.self.entries (c.args.table, c.args.place, c.args.stamp.number, c.args.stamp.id, c.args.row) (c.of-n.result - 1)
    (sure c.insert.result c.insert.ensures.updates c.insert.ensures.absent (λ none.
    never (maps.get (maps.of_list c.self.inside.by_mark.entries) (c.args.table, c.args.place, c.args.stamp.number, c.args.stamp.id, c.args.row)) c.of-n.result
    (c.of-n.ensures ∙ ap (λ m. count_at m (c.args.table, c.args.place, c.args.stamp.number, c.args.stamp.id, c.args.row)) (sym c.self.view_is)) c.if-n-le1.false
    (get-held mark_total c.self.inside.by_mark.entries (c.args.table, c.args.place, c.args.stamp.number, c.args.stamp.id, c.args.row) ∙ none))).0

pub invariant_of-self-else-n-le1 : goal.invariant_of-self-else-n-le1
invariant_of-self-else-n-le1 c = subst IsNumbered (sym (put c)) (numbered_put (maps.of_list c.self.inside.by_mark.entries) (c.args.table, c.args.place, c.args.stamp.number, c.args.stamp.id, c.args.row) (c.of-n.result - 1) c.ranges.row.fits c.self.invariant)

pub returns-else-n-le1 : goal.returns-else-n-le1
returns-else-n-le1 c =
    put c ∙ ap (λ m. maps.insert m (c.args.table, c.args.place, c.args.stamp.number, c.args.stamp.id, c.args.row) (c.of-n.result - 1)) c.self.view_is
    ∙ lowered_left c.args.self.now (c.args.table, c.args.place, c.args.stamp.number, c.args.stamp.id, c.args.row) c.of-n.result c.of-n.ensures c.if-n-le1.false
