use Rattle.std.proofs.Common.{◌≡◌, map, take}
use Rattle.transact_profile.specs.Conditions.{resolved_condition}
use Rattle.transact_profile.proofs.resolving.resolved_conditions.Given as goal

abbrev pub invariant-conditions : goal.invariant-conditions
invariant-conditions l = l.all ≡ map (resolved_condition l.names) (take l.condition-index l.conditions)
