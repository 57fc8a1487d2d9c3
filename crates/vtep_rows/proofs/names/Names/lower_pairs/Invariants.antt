use Rattle.std.proofs.Common.{◌≡◌, drop}
use Rattle.std.specs.List.{flat_map}
use Rattle.vtep_rows.specs.Row.{pair_references}
use Rattle.vtep_rows.specs.Names.{lowered_all}
use Rattle.vtep_rows.proofs.names.Names.lower_pairs.Given as goal

abbrev pub invariant-pairs : goal.invariant-pairs
invariant-pairs l = lowered_all l.self l.of (flat_map (pair_references l.key l.value) (drop l.pair-index l.pairs)) ≡ lowered_all l.initial.self l.of (flat_map (pair_references l.key l.value) l.pairs)
