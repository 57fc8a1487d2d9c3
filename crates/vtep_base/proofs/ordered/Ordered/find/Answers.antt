use Rattle.std.proofs.Common.{sym, ap, ◌∙◌}
use Rattle.vtep_base.specs.Maps as maps
use Rattle.vtep_base.proofs.Held.{get-held}
use Rattle.vtep_base.proofs.ordered.Ordered.find.Goals as goal

pub returns : goal.returns
returns g c = c.get.ensures.value ∙ sym (get-held g.met.K.Ord.total c.self.inside.tree.entries c.args.key.now) ∙ ap (λ es. maps.get (maps.map_by g.K.Ord.cmp es) c.args.key.now) c.self.view_is
