use Rattle.std.proofs.Common.{◌≡◌, map, take}
use Rattle.transact_profile.specs.Conditions.{resolved_pair}
use Rattle.transact_profile.proofs.resolving.resolved_pairs.Given as goal

abbrev pub invariant-pairs : goal.invariant-pairs
invariant-pairs l = l.all ≡ map (resolved_pair l.names) (take l.pair-index l.pairs)
