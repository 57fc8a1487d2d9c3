use Rattle.std.proofs.Common.{sym, ap, ◌∙◌}
use Rattle.std.proofs.lemmas.Result.{IfOk-weaker}
use Rattle.fabric_world.specs.Happenings.{peers_of}
use Rattle.vtep_fabric.proofs.Installed.{peers-gateways}
use Rattle.vtep_fabric.proofs.roster.Roster.peers.Goals as goal

pub returns : goal.returns
returns c =
    IfOk-weaker c.peers_in.result _ _ (λ peers made. made ∙ sym (peers-gateways c.self.inside.gateways.entries c.peers_in.ensures.ordered) ∙ ap peers_of c.self.view_is) c.peers_in.ensures.made
