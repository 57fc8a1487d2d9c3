use Rattle.std.proofs.Common.{◌≡◌, drop}
use Rattle.transact_profile.specs.Meaning.{changed, change_each}
use Rattle.transact_profile.proofs.effects.change_each.Given as goal

abbrev pub invariant-ids : goal.invariant-ids
invariant-ids l =
    (change_each l.table (changed l.edit) (drop l.id-index l.ids) l.database.current ≡ change_each l.table (changed l.edit) l.ids l.fn.database.current)
    × (l.database.committed ≡ l.fn.database.committed)
