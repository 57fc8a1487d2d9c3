use Rattle.std.proofs.Common.{◌≡◌, take}
use Rattle.ovsdb_values.proofs.atom_maps.copy_pairs.Given as goal

abbrev pub invariant-pairs : goal.invariant-pairs
invariant-pairs l = l.copy.items ≡ take l.pair-index l.pairs
