use Rattle.std.proofs.Common.{◌≡◌, ◌++◌}
use Rattle.vtep_base.specs.Maps as maps
use Rattle.vtep_rows.proofs.differences.Differing.into_list.Given as goal

abbrev pub invariant-rows : goal.invariant-rows
invariant-rows l = l.change ++ l.row-iterator ≡ maps.values l.fn.self
