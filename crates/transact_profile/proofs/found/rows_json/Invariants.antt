use Rattle.std.proofs.Common.{◌≡◌, map, take}
use Rattle.serde_json.specs.View.{view}
use Rattle.transact_profile.specs.Meaning.{found}
use Rattle.transact_profile.proofs.found.rows_json.Given as goal

abbrev pub invariant-ids : goal.invariant-ids
invariant-ids l = map view l.items.items ≡ map (found l.rows l.table l.fields) (take l.id-index l.ids)
