use Rattle.std.proofs.Common.{◌≡◌, drop}
use Rattle.monitor_updates.specs.Noted.{asked_of}
use Rattle.monitor_updates.proofs.updates.asked_of.Given as goal

abbrev pub invariant-request : goal.invariant-request
invariant-request l = asked_of (drop l.asked-index l.request) l.table ≡ asked_of l.request l.table
