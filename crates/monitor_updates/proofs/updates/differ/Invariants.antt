use Rattle.std.proofs.Common.{◌≡◌, drop}
use Rattle.monitor_updates.specs.Noted.{cut, differing}
use Rattle.monitor_updates.specs.OneRow.{is_any}
use Rattle.monitor_updates.proofs.updates.differ.Given as goal

abbrev pub invariant-columns : goal.invariant-columns
invariant-columns l = is_any (differing (cut (drop l.column-index l.columns) l.old) (cut (drop l.column-index l.columns) l.new)) ≡ is_any (differing (cut l.columns l.old) (cut l.columns l.new))
