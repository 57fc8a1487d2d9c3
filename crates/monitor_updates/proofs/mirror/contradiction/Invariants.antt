use Rattle.std.proofs.Common.{◌≡◌, drop}
use Rattle.monitor_updates.specs.Mirrored.{contradiction}
use Rattle.monitor_updates.proofs.mirror.contradiction.Given as goal

abbrev pub invariant-told : goal.invariant-told
invariant-told l = contradiction l.first l.rows (drop l.entry-index l.told) ≡ contradiction l.first l.rows l.told
