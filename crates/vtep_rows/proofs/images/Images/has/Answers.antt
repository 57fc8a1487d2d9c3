use Rattle.std.proofs.Common.{is_some, sym, ap, ◌∙◌}
use Rattle.vtep_base.specs.Maps as maps
use Rattle.vtep_base.proofs.Held.{get-held}
use Rattle.vtep_rows.specs.Orders.{key_total}
use Rattle.vtep_rows.proofs.images.Images.has.Goals as goal

pub returns : goal.returns
returns c = c.contains_key.ensures ∙ ap is_some (sym (get-held key_total c.self.inside.by_key.entries (c.args.table, c.args.id))) ∙ ap (λ m. maps.has m (c.args.table, c.args.id)) c.self.view_is
