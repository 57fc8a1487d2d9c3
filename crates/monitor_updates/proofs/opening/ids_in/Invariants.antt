use Rattle.std.proofs.Common.{◌≡◌, ◌++◌}
use Rattle.vtep_rows.specs.Rows.{ids_of}
use Rattle.monitor_updates.proofs.opening.ids_in.Given as goal

abbrev pub invariant-ids : goal.invariant-ids
invariant-ids l = l.ids.items ++ l.id-iterator ≡ ids_of l.fn.table l.fn.rows
