use Rattle.std.proofs.Common.{sym, ap, ◌∙◌}
use Rattle.vtep_base.proofs.Held.{list-of_list}
use Rattle.vtep_rows.specs.Orders.{key_total}
use Rattle.vtep_rows.proofs.images.Images.iter.Goals as goal

pub returns : goal.returns
returns c = c.iter.ensures.rest ∙ sym (list-of_list key_total c.self.inside.by_key.entries c.iter.ensures.ordered) ∙ ap (λ m. m.list) c.self.view_is
