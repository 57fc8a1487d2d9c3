use Rattle.std.proofs.Common.{◌≡◌}
use Rattle.std.specs.Vec.Iter.{into_iter_items}
use Rattle.vtep_rows.specs.Rows.{without}
use Rattle.vtep_rows.proofs.indexed.Indexed.remove_all.Given as goal

abbrev pub invariant-keys : goal.invariant-keys
invariant-keys l = without l.self (into_iter_items l.table-iterator) ≡ without l.initial.self l.fn.keys
