use Rattle.std.proofs.Common.{◌≡◌, drop}
use Rattle.std.specs.List.{list_all, list_any}
use Rattle.transact_profile.specs.Meaning.{is_given_at}
use Rattle.transact_profile.proofs.waiting.all_there.Given as goal

abbrev pub invariant-given : goal.invariant-given
invariant-given l = list_all (λ cells. list_any (λ id. is_given_at l.fields l.rows l.table id cells) l.ids) (drop l.cells-index l.given) ≡ list_all (λ cells. list_any (λ id. is_given_at l.fields l.rows l.table id cells) l.ids) l.given
