use Rattle.std.proofs.Common.{◌≡◌, drop}
use Rattle.std.specs.List.{list_any}
use Rattle.transact_profile.specs.Meaning.{is_given_at}
use Rattle.transact_profile.proofs.waiting.row_is_given.Given as goal

abbrev pub invariant-given : goal.invariant-given
invariant-given l = list_any (is_given_at l.fields l.rows l.table l.id) (drop l.cells-index l.given) ≡ list_any (is_given_at l.fields l.rows l.table l.id) l.given
