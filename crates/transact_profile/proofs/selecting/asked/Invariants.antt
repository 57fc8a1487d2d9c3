use Rattle.std.proofs.Common.{◌≡◌, ℕ, true, drop}
use Rattle.std.specs.List.{list_all}
use Rattle.vtep_rows.specs.Row.{Contents}
use Rattle.transact_profile.specs.Conditions.{holds}
use Rattle.transact_profile.proofs.selecting.asked.Given as goal

abbrev pub invariant-conditions : goal.invariant-conditions
invariant-conditions l =
    (other : ℕ) (row : Contents) → list_all (holds other row) l.conditions ≡ true → list_all (holds other row) (drop l.condition-index l.conditions) ≡ true
