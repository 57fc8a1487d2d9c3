use Rattle.std.proofs.Common.{◌≡◌, map, take}
use Rattle.transact_profile.specs.Conditions.{resolved_cells}
use Rattle.transact_profile.proofs.resolving.resolved_rows.Given as goal

abbrev pub invariant-rows : goal.invariant-rows
invariant-rows l = l.all ≡ map (resolved_cells l.names) (take l.cells-index l.rows)
