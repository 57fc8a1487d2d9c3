use Rattle.std.proofs.Common.{sym, ap, ◌∙◌}
use Rattle.vtep_base.proofs.Held.{list-of_list}
use Rattle.vtep_rows.specs.Orders.{key_total}
use Rattle.vtep_rows.proofs.images.Images.into_entries.Goals as goal

pub returns : goal.returns
returns c =
    c.into_iter.ensures.into_iter_gives.0 ∙ sym (list-of_list key_total c.self.inside.by_key.entries c.into_iter.ensures.into_iter_gives.5) ∙ ap (λ m. m.list) c.self.view_is
