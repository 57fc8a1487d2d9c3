use Rattle.std.proofs.Common.{map, ap, ◌∙◌}
use Rattle.std.specs.Map.Iter.{deref_pair}
use Rattle.std.proofs.lemmas.Map.Iter.{rest_more}
use Rattle.fabric_world.specs.Installer.{with_each, host_cmp, hosts_at, switches_in}
use Rattle.vtep_fabric.proofs.Ascending.{more}
use Rattle.vtep_fabric.proofs.wanted.Hosts.of.Goals as goal

pub peers-preserved : goal.peers-preserved
peers-preserved c =
    let g = c.in-Some.gateway.now in
    let peer = c.in-Some.peer.now in
    let i = c.args.intention.now in
    more host_cmp (hosts_at i) c.peers.pairs.keys c.add_hosts.new.pairs.keys _ (g, peer) c.peers.gateway-iterator c.next.new.self
    (rest_more deref_pair c.peers.gateway-iterator c.next.new.self c.next.result (c.in-Some.gateway, c.in-Some.peer) c.in-Some.is c.next.ensures.steps)
    (c.in_ok-add_hosts.ensures
    ∙ ap (λ ss. with_each host_cmp c.peers.pairs.keys (map (λ s. (s, g)) ss)) (c.as_slice-in-peers.ensures ∙ c.in_ok-switches.ensures ∙ ap switches_in (c.as_slice.ensures ∙ c.in_ok-ports.ensures)))
    c.peers.invariant
