use Rattle.std.proofs.Common.{sym, ap, ◌∙◌}
use Rattle.vtep_base.specs.Maps as maps
use Rattle.std.proofs.Common.{is_some}
use Rattle.vtep_base.proofs.Held.{get-held}
use Rattle.vtep_base.proofs.ordered.Ordered.has.Goals as goal

pub returns : goal.returns
returns g c = c.contains_key.ensures ∙ ap is_some (sym (get-held g.met.K.Ord.total c.self.inside.tree.entries c.args.key.now)) ∙ ap (λ es. maps.has (maps.map_by g.K.Ord.cmp es) c.args.key.now) c.self.view_is
