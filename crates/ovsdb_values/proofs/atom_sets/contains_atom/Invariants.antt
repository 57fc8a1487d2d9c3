use Rattle.std.proofs.Common.{◌≡◌, drop}
use Rattle.ovsdb_values.specs.Sets.{has_atom}
use Rattle.ovsdb_values.proofs.atom_sets.contains_atom.Given as goal

abbrev pub invariant-atoms : goal.invariant-atoms
invariant-atoms l = has_atom (drop l.one-index l.atoms) l.atom ≡ has_atom l.atoms l.atom
