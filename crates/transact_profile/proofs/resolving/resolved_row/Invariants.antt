use Rattle.std.proofs.Common.{◌≡◌, take}
use Rattle.transact_profile.specs.Conditions.{resolved_cells}
use Rattle.transact_profile.proofs.resolving.resolved_row.Given as goal

abbrev pub invariant-row : goal.invariant-row
invariant-row l = l.all ≡ resolved_cells l.names (take l.cell-index l.row)
