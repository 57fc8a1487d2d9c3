use Rattle.std.proofs.Common.{◌≡◌, ◌++◌}
use Rattle.vtep_rows.specs.Database.{ids_at}
use Rattle.vtep_rows.proofs.database.ids_at.Given as goal

abbrev pub invariant-places : goal.invariant-places
invariant-places l = l.ids ++ ids_at l.table l.key-iterator ≡ ids_at l.table l.places.keys
