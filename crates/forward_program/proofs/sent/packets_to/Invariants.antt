use Rattle.std.proofs.Common.{◌≡◌, map, take}
use Rattle.vxlan_frames.specs.Packets.{canon}
use Rattle.forward_program.proofs.sent.packets_to.Given as goal

abbrev pub invariant-addresses : goal.invariant-addresses
invariant-addresses l = l.packets ≡ map (λ ip. canon l.own ip l.vni l.inner) (take l.ip-index l.addresses)
