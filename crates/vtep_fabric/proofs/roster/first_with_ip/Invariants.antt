use Rattle.std.proofs.Common.{◌≡◌, find}
use Rattle.fabric_world.specs.Happenings.{has_ip}
use Rattle.vtep_fabric.proofs.roster.first_with_ip.Given as goal

abbrev pub invariant-gateways : goal.invariant-gateways
invariant-gateways l = find (λ e. has_ip l.ip (e.0, e.1.state)) l.name-iterator ≡ find (λ e. has_ip l.ip (e.0, e.1.state)) l.gateways.entries
