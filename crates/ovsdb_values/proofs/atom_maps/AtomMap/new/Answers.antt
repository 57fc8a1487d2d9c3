use Rattle.ovsdb_values.proofs.InOrder.{no_pairs}
use Rattle.ovsdb_values.proofs.atom_maps.AtomMap.new.Goals as goal

pub invariant_of-result : goal.invariant_of-result
invariant_of-result c = no_pairs _ c.new.ensures.items
