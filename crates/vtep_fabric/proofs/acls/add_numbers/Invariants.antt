use Rattle.std.proofs.Common.{◌≡◌, ◌++◌, drop}
use Rattle.fabric_world.specs.Installer.{given, number_atom}
use Rattle.vtep_fabric.proofs.acls.add_numbers.Given as goal

abbrev pub invariant-columns : goal.invariant-columns
invariant-columns l = l.values.items ++ given number_atom (drop l.column-index l.columns) ≡ l.fn.values.items ++ given number_atom l.columns
