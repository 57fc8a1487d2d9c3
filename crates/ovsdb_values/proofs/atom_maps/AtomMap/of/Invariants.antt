use Rattle.std.proofs.Common.{◌≡◌, []}
use Rattle.std.specs.Vec.Iter.{into_iter_items}
use Rattle.ovsdb_values.specs.Atoms.{map_from}
use Rattle.ovsdb_values.proofs.atom_maps.AtomMap.of.Given as goal

abbrev pub invariant-pairs : goal.invariant-pairs
invariant-pairs l = map_from l.ordered.entries (into_iter_items l.key-iterator) ≡ map_from [] l.fn.pairs
