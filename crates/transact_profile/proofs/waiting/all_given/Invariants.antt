use Rattle.std.proofs.Common.{◌≡◌, drop}
use Rattle.std.specs.List.{list_all, list_any}
use Rattle.transact_profile.specs.Meaning.{is_given_at}
use Rattle.transact_profile.proofs.waiting.all_given.Given as goal

abbrev pub invariant-ids : goal.invariant-ids
invariant-ids l = list_all (λ id. list_any (is_given_at l.fields l.rows l.table id) l.given) (drop l.id-index l.ids) ≡ list_all (λ id. list_any (is_given_at l.fields l.rows l.table id) l.given) l.ids
