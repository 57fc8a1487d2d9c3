use Rattle.std.proofs.Common.{◌≡◌, map}
use Rattle.std.specs.Prelude.{not, ◌&&◌}
use Rattle.std.specs.List.{filter}
use Rattle.std.specs.Ordering.{nat_cmp}
use Rattle.vtep_base.specs.Reading.{same_bytes}
use Rattle.fabric_world.specs.Installer.{with_each, is_host, others}
use Rattle.vtep_fabric.proofs.wanted.others.Given as goal

abbrev pub invariant-peers : goal.invariant-peers
invariant-peers l =
    with_each nat_cmp l.ips.keys (map (λ e. e.1.ip) (filter (λ e. not (same_bytes e.0 l.gateway) && is_host l.hosts l.switch e.0) l.name-iterator))
    ≡ others l.hosts l.fn.peers l.gateway l.switch
