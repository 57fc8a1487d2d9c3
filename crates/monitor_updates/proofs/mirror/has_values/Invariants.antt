use Rattle.std.proofs.Common.{◌≡◌, drop}
use Rattle.monitor_updates.specs.Mirrored.{has_values}
use Rattle.monitor_updates.proofs.mirror.has_values.Given as goal

abbrev pub invariant-values : goal.invariant-values
invariant-values l = has_values (drop l.column-index l.values) l.row ≡ has_values l.values l.row
