use Rattle.std.proofs.Common.{◌≡◌, take}
use Rattle.std.specs.Prelude.{filter, not}
use Rattle.ovsdb_values.specs.Sets.{has_atom}
use Rattle.ovsdb_values.proofs.atom_sets.other_atoms.Given as goal

abbrev pub invariant-atoms : goal.invariant-atoms
invariant-atoms l = l.rest.items ≡ filter (λ x. not (has_atom l.others x)) (take l.atom-index l.atoms)
