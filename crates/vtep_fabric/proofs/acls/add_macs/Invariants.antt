use Rattle.std.proofs.Common.{◌≡◌, ◌++◌, drop}
use Rattle.fabric_world.specs.Installer.{given, mac_atom}
use Rattle.vtep_fabric.proofs.acls.add_macs.Given as goal

abbrev pub invariant-columns : goal.invariant-columns
invariant-columns l = l.values.items ++ given mac_atom (drop l.column-index l.columns) ≡ l.fn.values.items ++ given mac_atom l.columns
