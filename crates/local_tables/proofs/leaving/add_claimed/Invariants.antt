use Rattle.std.proofs.Common.{◌≡◌, ◌++◌}
use Rattle.std.specs.List.{filter_map}
use Rattle.std.specs.Vec.Iter.{into_iter_items}
use Rattle.local_tables.specs.Following.{claimed_at, claimed}
use Rattle.local_tables.proofs.leaving.add_claimed.Given as goal

abbrev pub invariant-ids : goal.invariant-ids
invariant-ids l =
    l.gone ++ filter_map (claimed_at l.database.committed l.database.current l.learned.entries) (into_iter_items l.id-iterator) ≡ l.initial.gone ++ claimed l.database.committed l.database.current l.learned.entries
