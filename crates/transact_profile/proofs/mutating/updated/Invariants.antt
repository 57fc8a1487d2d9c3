use Rattle.std.proofs.Common.{◌≡◌, drop}
use Rattle.transact_profile.specs.Mutations.{updated}
use Rattle.transact_profile.proofs.mutating.updated.Given as goal

abbrev pub invariant-values : goal.invariant-values
invariant-values l =
    (l.new.table ≡ l.row.table)
    × (updated l.new (drop l.cell-index l.values) ≡ updated l.row l.values)
