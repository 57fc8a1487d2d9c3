use Rattle.std.proofs.Common.{◌≡◌, drop}
use Rattle.ovsdb_values.specs.Sets.{has_pair}
use Rattle.ovsdb_values.proofs.atom_maps.contains_pair.Given as goal

abbrev pub invariant-pairs : goal.invariant-pairs
invariant-pairs l = has_pair (drop l.one-index l.pairs) l.pair ≡ has_pair l.pairs l.pair
