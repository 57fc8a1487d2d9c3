use Rattle.std.proofs.Common.{map}
use Rattle.vtep_base.specs.Maps as maps
use Rattle.fabric_world.specs.Happenings.{install_each}
use Rattle.vtep_fabric.proofs.Happen.{Going}
use Rattle.vtep_fabric.proofs.Installed.{named}
use Rattle.vtep_fabric.proofs.roster.Roster.install_each.Given as goal

abbrev pub invariant-peers : goal.invariant-peers
invariant-peers l =
    Going (install_each l.intention l.fn.peers l.fn.self (maps.keys l.fn.peers)) (install_each l.intention l.fn.peers l.self (map named l.name-iterator)) l.fn.text l.text
