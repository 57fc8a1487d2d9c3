use Rattle.std.proofs.Common.{◌≡◌, drop}
use Rattle.ovsdb_values.specs.Sets.{value_in}
use Rattle.ovsdb_values.proofs.atom_maps.find_value.Given as goal

abbrev pub invariant-pairs : goal.invariant-pairs
invariant-pairs l = value_in (drop l.own-index l.pairs) l.key ≡ value_in l.pairs l.key
