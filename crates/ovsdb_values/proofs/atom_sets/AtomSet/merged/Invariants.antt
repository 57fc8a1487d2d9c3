use Rattle.std.proofs.Common.{◌≡◌}
use Rattle.std.specs.Vec.Iter.{into_iter_items}
use Rattle.ovsdb_values.specs.Sets.{with_atoms, set_of}
use Rattle.ovsdb_values.proofs.atom_sets.AtomSet.merged.Given as goal

abbrev pub invariant-atoms : goal.invariant-atoms
invariant-atoms l = with_atoms l.ordered.keys (into_iter_items l.atom-iterator) ≡ set_of l.fn.atoms
