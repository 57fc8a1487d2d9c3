use Rattle.ovsdb_values.proofs.InOrder.{no_atoms}
use Rattle.ovsdb_values.proofs.atom_sets.AtomSet.new.Goals as goal

pub invariant_of-result : goal.invariant_of-result
invariant_of-result c = no_atoms _ c.new.ensures.items
