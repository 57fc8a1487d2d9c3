use Rattle.std.proofs.Common.{◌≡◌, ◌++◌}
use Rattle.std.specs.Vec.Iter.{into_iter_items}
use Rattle.local_tables.proofs.floods.touched.Given as goal

abbrev pub invariant-switches : goal.invariant-switches
invariant-switches l = l.switches ++ into_iter_items l.id-iterator ≡ l.initial.switches ++ into_iter_items l.initial.id-iterator
