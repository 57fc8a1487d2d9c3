use Rattle.std.proofs.Common.{◌≡◌, drop}
use Rattle.std.specs.List.{list_all}
use Rattle.transact_profile.specs.Meaning.{agrees}
use Rattle.transact_profile.proofs.waiting.all_agree.Given as goal

abbrev pub invariant-fields : goal.invariant-fields
invariant-fields l = list_all (agrees l.id l.row l.cells) (drop l.field-index l.fields) ≡ list_all (agrees l.id l.row l.cells) l.fields
