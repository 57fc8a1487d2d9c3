use Rattle.std.proofs.Common.{◌≡◌, take}
use Rattle.forward_program.proofs.sent.copy_packets.Given as goal

abbrev pub invariant-packets : goal.invariant-packets
invariant-packets l = l.copy ≡ take l.packet-index l.packets
