use Rattle.std.proofs.Common.{◌≡◌, drop}
use Rattle.serde_json.specs.Data.{no_members}
use Rattle.serde_json.specs.View.{members_view}
use Rattle.transact_profile.specs.Meaning.{row_members}
use Rattle.transact_profile.proofs.found.row_json.Given as goal

abbrev pub invariant-fields : goal.invariant-fields
invariant-fields l = row_members l.id l.row (members_view l.members.entries) (drop l.field-index l.fields) ≡ row_members l.id l.row no_members l.fields
