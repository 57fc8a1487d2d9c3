use Rattle.std.proofs.Common.{◌≡◌, take}
use Rattle.std.specs.Prelude.{filter, not}
use Rattle.ovsdb_values.specs.Sets.{has_pair}
use Rattle.ovsdb_values.proofs.atom_maps.other_pairs.Given as goal

abbrev pub invariant-pairs : goal.invariant-pairs
invariant-pairs l = l.rest.items ≡ filter (λ p. not (has_pair l.others p)) (take l.pair-index l.pairs)
