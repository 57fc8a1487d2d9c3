use Rattle.ovsdb_values.proofs.InOrder.{kept_pairs}
use Rattle.ovsdb_values.proofs.atom_maps.AtomMap.without_keys.Goals as goal

pub invariant_of-result : goal.invariant_of-result
invariant_of-result c = kept_pairs _ _ _ _ c.in_ok-pairs_without_keys.ensures c.as_slice.ensures.value c.self.invariant
