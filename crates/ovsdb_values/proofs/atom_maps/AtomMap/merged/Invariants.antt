use Rattle.std.proofs.Common.{◌≡◌}
use Rattle.std.specs.Vec.Iter.{into_iter_items}
use Rattle.ovsdb_values.specs.Sets.{with_pairs, map_of}
use Rattle.ovsdb_values.proofs.atom_maps.AtomMap.merged.Given as goal

abbrev pub invariant-pairs : goal.invariant-pairs
invariant-pairs l = with_pairs l.ordered.entries (into_iter_items l.key-iterator) ≡ map_of l.fn.pairs
