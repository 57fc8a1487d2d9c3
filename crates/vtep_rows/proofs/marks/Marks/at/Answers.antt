use Rattle.std.proofs.Common.{sym, ap, ◌∙◌}
use Rattle.std.specs.List.{filter}
use Rattle.std.specs.BTreeMap.Range.{range_contains}
use Rattle.std.specs.declared.ops.Bound.TheVariants.{Included}
use Rattle.vtep_base.specs.Maps as maps
use Rattle.vtep_base.proofs.Held.{list-of_list}
use Rattle.vtep_rows.specs.Marks.{mark_cmp, is_at_place}
use Rattle.vtep_rows.specs.MarkOrders.{mark_total}
use Rattle.vtep_rows.proofs.Places.{of_one_place}
use Rattle.vtep_rows.proofs.marks.Marks.at.Goals as goal

pub returns-clause-rest : goal.returns-clause-rest
returns-clause-rest c =
    c.range.ensures.between c.new.ensures.exhausted
    ∙ (λ i. filter (λ e. range_contains mark_cmp (Included (c.new.ensures.start i)) (Included (c.new.ensures.end i)) e.0)
    (sym (list-of_list mark_total c.self.inside.by_mark.entries c.range.ensures.ordered) i))
    ∙ of_one_place (maps.of_list c.self.inside.by_mark.entries).list (c.args.table, c.args.place, c.args.stamp.number, c.args.stamp.id) c.self.invariant
    ∙ ap (λ m. filter (λ e. is_at_place (c.args.table, c.args.place, c.args.stamp.number, c.args.stamp.id) e.0) m.list) c.self.view_is
