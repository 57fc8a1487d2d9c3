use Rattle.std.proofs.Common.{◌≡◌, ◌++◌}
use Rattle.ovsdb_values.proofs.atom_maps.in_key_order.Given as goal

abbrev pub invariant-ordered : goal.invariant-ordered
invariant-ordered l = l.pairs.items ++ l.pair-iterator ≡ l.fn.ordered.entries
