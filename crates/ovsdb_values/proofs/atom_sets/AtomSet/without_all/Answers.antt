use Rattle.ovsdb_values.proofs.InOrder.{kept_atoms}
use Rattle.ovsdb_values.proofs.atom_sets.AtomSet.without_all.Goals as goal

pub invariant_of-result : goal.invariant_of-result
invariant_of-result c = kept_atoms _ _ _ _ c.in_ok-other_atoms.ensures c.as_slice.ensures.value c.self.invariant
