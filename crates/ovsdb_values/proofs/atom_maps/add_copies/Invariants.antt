use Rattle.std.proofs.Common.{◌≡◌, ◌++◌, take}
use Rattle.ovsdb_values.proofs.atom_maps.add_copies.Given as goal

abbrev pub invariant-pairs : goal.invariant-pairs
invariant-pairs l = l.to ≡ l.initial.to ++ take l.pair-index l.pairs
