use Rattle.std.proofs.Common.{rules}
use Rattle.ovsdb_values.proofs.InOrder.{one_atom}
use Rattle.ovsdb_values.proofs.atom_sets.AtomSet.one.Goals as goal

pub invariant_of-result : goal.invariant_of-result
invariant_of-result c = one_atom _ c.args.atom (search rules)
