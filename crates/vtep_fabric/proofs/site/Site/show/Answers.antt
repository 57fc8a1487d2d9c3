use Rattle.std.proofs.Common.{◌≡◌, ◌++◌, subst}
use Rattle.std.specs.Prelude.{OnOk}
use Rattle.vtep_gateway.specs.Gateway.{Held}
use Rattle.fabric_world.specs.World.{shown_at}
use Rattle.vtep_fabric.proofs.site.Site.show.Goals as goal

pub returns : goal.returns
returns c = subst (λ (h : Held). OnOk c.show.result (c.show.new.out ≡ c.args.text.now ++ shown_at h.state)) c.self.view_is c.show.ensures.ok
