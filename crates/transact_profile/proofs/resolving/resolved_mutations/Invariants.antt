use Rattle.std.proofs.Common.{◌≡◌, map, take}
use Rattle.transact_profile.specs.Conditions.{resolved_mutation}
use Rattle.transact_profile.proofs.resolving.resolved_mutations.Given as goal

abbrev pub invariant-mutations : goal.invariant-mutations
invariant-mutations l = l.all ≡ map (resolved_mutation l.names) (take l.mutation-index l.mutations)
