use Rattle.std.proofs.Common.{◌≡◌, map, drop}
use Rattle.fabric_world.specs.Installer.{with_each, host_cmp}
use Rattle.vtep_fabric.proofs.wanted.add_hosts.Given as goal

abbrev pub invariant-switches : goal.invariant-switches
invariant-switches l =
    with_each host_cmp l.pairs.keys (map (λ s. (s, l.gateway)) (drop l.switch-index l.switches))
    ≡ with_each host_cmp l.fn.pairs.keys (map (λ s. (s, l.gateway)) l.switches)
