use Rattle.std.proofs.Common.{◌≡◌, take}
use Rattle.std.specs.Prelude.{filter, not}
use Rattle.ovsdb_values.specs.Sets.{has_atom}
use Rattle.ovsdb_values.proofs.atom_maps.pairs_without_keys.Given as goal

abbrev pub invariant-pairs : goal.invariant-pairs
invariant-pairs l = l.rest.items ≡ filter (λ p. not (has_atom l.keys p.0)) (take l.pair-index l.pairs)
