use Rattle.std.proofs.Common.{sym, ap, ◌∙◌}
use Rattle.vtep_schema.specs.Orders.{column_total}
use Rattle.vtep_rows.proofs.FieldLists.{list-sorted}
use Rattle.vtep_rows.proofs.fields.Fields.as_slice.Goals as goal

pub returns : goal.returns
returns c = c.as_slice.ensures.value ∙ sym (list-sorted column_total c.self.inside.values.items c.self.invariant) ∙ ap (λ m. m.list) c.self.view_is
