use Rattle.std.proofs.Common.{◌≡◌, drop}
use Rattle.transact_profile.specs.Meaning.{remove_each}
use Rattle.transact_profile.proofs.effects.remove_each.Given as goal

abbrev pub invariant-ids : goal.invariant-ids
invariant-ids l =
    (remove_each l.table (drop l.id-index l.ids) l.database.current ≡ remove_each l.table l.ids l.fn.database.current)
    × (l.database.committed ≡ l.fn.database.committed)
