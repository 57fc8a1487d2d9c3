use Rattle.std.proofs.Common.{◌≡◌, drop}
use Rattle.std.specs.List.{list_all}
use Rattle.transact_profile.specs.Conditions.{holds}
use Rattle.transact_profile.proofs.selecting.all_hold.Given as goal

abbrev pub invariant-conditions : goal.invariant-conditions
invariant-conditions l = list_all (holds l.id l.row) (drop l.condition-index l.conditions) ≡ list_all (holds l.id l.row) l.conditions
