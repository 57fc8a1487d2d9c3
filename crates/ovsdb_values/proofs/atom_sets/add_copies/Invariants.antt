use Rattle.std.proofs.Common.{◌≡◌, ◌++◌, take}
use Rattle.ovsdb_values.proofs.atom_sets.add_copies.Given as goal

abbrev pub invariant-atoms : goal.invariant-atoms
invariant-atoms l = l.to ≡ l.initial.to ++ take l.atom-index l.atoms
