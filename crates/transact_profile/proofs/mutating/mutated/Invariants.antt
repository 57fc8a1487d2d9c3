use Rattle.std.proofs.Common.{◌≡◌, drop}
use Rattle.transact_profile.specs.Mutations.{mutated}
use Rattle.transact_profile.proofs.mutating.mutated.Given as goal

abbrev pub invariant-mutations : goal.invariant-mutations
invariant-mutations l =
    (l.new.table ≡ l.row.table)
    × (mutated l.new (drop l.mutation-index l.mutations) ≡ mutated l.row l.mutations)
