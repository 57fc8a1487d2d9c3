use Rattle.std.proofs.Common.{drop}
use Rattle.fabric_world.specs.Happenings.{carried_each}
use Rattle.vtep_fabric.proofs.Happen.{Going}
use Rattle.vtep_fabric.proofs.roster.Roster.carry_each.Given as goal

abbrev pub invariant-packets : goal.invariant-packets
invariant-packets l = Going (carried_each l.fn.self l.packets) (carried_each l.self (drop l.packet-index l.packets)) l.fn.text l.text
