use Rattle.std.proofs.Common.{◌≡◌, drop}
use Rattle.std.specs.List.{list_any}
use Rattle.transact_profile.specs.Meaning.{is_given_at}
use Rattle.transact_profile.proofs.waiting.is_there.Given as goal

abbrev pub invariant-ids : goal.invariant-ids
invariant-ids l = list_any (λ id. is_given_at l.fields l.rows l.table id l.cells) (drop l.id-index l.ids) ≡ list_any (λ id. is_given_at l.fields l.rows l.table id l.cells) l.ids
