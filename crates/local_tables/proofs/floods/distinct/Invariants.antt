use Rattle.std.proofs.Common.{◌≡◌, ◌||◌, ℕ}
use Rattle.std.specs.Vec.Iter.{into_iter_items}
use Rattle.local_tables.specs.Following.{has_id}
use Rattle.local_tables.proofs.floods.distinct.Given as goal

abbrev pub invariant-switches : goal.invariant-switches
invariant-switches l = (i : ℕ) → (has_id l.set.keys i || has_id (into_iter_items l.switch-iterator) i) ≡ has_id l.fn.switches i
