use Rattle.std.proofs.Common.{◌≡◌, ◌++◌, filter}
use Rattle.transact_profile.specs.Conditions.{meets_at, selected}
use Rattle.transact_profile.proofs.selecting.scanned.Given as goal

abbrev pub invariant-rows : goal.invariant-rows
invariant-rows l = l.ids ++ filter (meets_at l.fn.table l.conditions l.rows) l.id-iterator ≡ selected l.fn.table l.conditions l.rows
