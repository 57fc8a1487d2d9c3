use Rattle.std.proofs.Common.{◌≡◌, ◌++◌}
use Rattle.ovsdb_values.proofs.atom_sets.in_order.Given as goal

abbrev pub invariant-ordered : goal.invariant-ordered
invariant-ordered l = l.atoms.items ++ l.atom-iterator ≡ l.fn.ordered.keys
