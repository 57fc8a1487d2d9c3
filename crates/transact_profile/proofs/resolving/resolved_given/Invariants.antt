use Rattle.std.proofs.Common.{◌≡◌, take}
use Rattle.transact_profile.specs.Conditions.{resolved_cells}
use Rattle.transact_profile.proofs.resolving.resolved_given.Given as goal

abbrev pub invariant-cells : goal.invariant-cells
invariant-cells l = l.all ≡ resolved_cells l.names (take l.cell-index l.cells)
