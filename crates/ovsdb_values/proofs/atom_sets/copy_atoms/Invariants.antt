use Rattle.std.proofs.Common.{◌≡◌, take}
use Rattle.ovsdb_values.proofs.atom_sets.copy_atoms.Given as goal

abbrev pub invariant-atoms : goal.invariant-atoms
invariant-atoms l = l.copy.items ≡ take l.atom-index l.atoms
