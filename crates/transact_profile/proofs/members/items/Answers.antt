use Rattle.std.proofs.Common.{Some, ap, ◌∙◌}
use Rattle.serde_json.specs.View.{items_view}
use Rattle.transact_profile.proofs.JsonLists.{listed_some, listed_none}
use Rattle.transact_profile.proofs.members.items.Goals as goal

pub returns-in-Some : goal.returns-in-Some
returns-in-Some c = listed_some _ _ (ap (λ vs. Some (items_view vs)) c.as_slice.ensures.value ∙ (rw c.in-Some.is at c.as_array.ensures))

pub returns-in-None : goal.returns-in-None
returns-in-None c = listed_none _ (rw c.in-None.is at c.as_array.ensures)
