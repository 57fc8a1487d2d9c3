use Rattle.std.proofs.Common.{◌≡◌, map, drop}
use Rattle.std.specs.List.{list_all}
use Rattle.serde_json.specs.View.{view}
use Rattle.transact_profile.specs.Members.{is_text}
use Rattle.transact_profile.proofs.members.texts.Given as goal

abbrev pub invariant-values : goal.invariant-values
invariant-values l = list_all is_text (map view (drop l.value-index l.values)) ≡ list_all is_text (map view l.values)
