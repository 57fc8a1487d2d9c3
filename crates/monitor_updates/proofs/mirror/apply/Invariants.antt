use Rattle.std.proofs.Common.{◌≡◌}
use Rattle.std.specs.Vec.Iter.{into_iter_items}
use Rattle.monitor_updates.specs.Mirrored.{applied}
use Rattle.monitor_updates.proofs.mirror.apply.Given as goal

abbrev pub invariant-told : goal.invariant-told
invariant-told l = applied l.rows (into_iter_items l.table-iterator) ≡ applied l.fn.rows l.fn.told
