use Rattle.std.proofs.Common.{◌≡◌, []}
use Rattle.std.specs.Vec.Iter.{into_iter_items}
use Rattle.ovsdb_values.specs.Atoms.{set_from}
use Rattle.ovsdb_values.proofs.atom_sets.AtomSet.of.Given as goal

abbrev pub invariant-atoms : goal.invariant-atoms
invariant-atoms l = set_from l.ordered.keys (into_iter_items l.atom-iterator) ≡ set_from [] l.fn.atoms
