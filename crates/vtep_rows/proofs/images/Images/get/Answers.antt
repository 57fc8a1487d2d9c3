use Rattle.std.proofs.Common.{sym, ap, ◌∙◌}
use Rattle.vtep_base.specs.Maps as maps
use Rattle.vtep_base.proofs.Held.{get-held}
use Rattle.vtep_rows.specs.Orders.{key_total}
use Rattle.vtep_rows.proofs.images.Images.get.Goals as goal

pub returns : goal.returns
returns c = c.get.ensures.value ∙ sym (get-held key_total c.self.inside.by_key.entries (c.args.table, c.args.id)) ∙ ap (λ m. maps.get m (c.args.table, c.args.id)) c.self.view_is
