use Rattle.std.proofs.Common.{◌≡◌, ◌++◌, drop}
use Rattle.fabric_world.specs.Installer.{given, ip_atom}
use Rattle.vtep_fabric.proofs.acls.add_ips.Given as goal

abbrev pub invariant-columns : goal.invariant-columns
invariant-columns l = l.values.items ++ given ip_atom (drop l.column-index l.columns) ≡ l.fn.values.items ++ given ip_atom l.columns
