use Rattle.std.proofs.Common.{ap, ◌∙◌}
use Rattle.std.specs.Map.Iter.{deref_pair}
use Rattle.std.proofs.lemmas.Map.Iter.{rest_more}
use Rattle.vtep_gateway.specs.Gateway.{Held}
use Rattle.fabric_world.specs.Installer.{peer_in}
use Rattle.vtep_fabric.proofs.Installed.{one_found}
use Rattle.vtep_fabric.proofs.settling.peers_in.Goals as goal

pub gateways-preserved : goal.gateways-preserved
gateways-preserved c =
    one_found c.gateways.peers c.put.new.self _ c.gateways.name-iterator c.next.new.self c.in-Some.name.now c.in-Some.site.now c.in_ok-of.field-0
    (rest_more deref_pair c.gateways.name-iterator c.next.new.self c.next.result (c.in-Some.name, c.in-Some.site) c.in-Some.is c.next.ensures.steps)
    c.in_ok-put.ensures.ok (c.in_ok-of.ensures ∙ ap peer_in (c.rows.ensures.value ∙ ap (λ (h : Held). h.state.vtep.rows) c.gateway.ensures)) c.gateways.invariant
