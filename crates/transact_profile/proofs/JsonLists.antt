-- The items of a value as a list.
use Rattle.std.proofs.Common.{◌≡◌, List, [], ◌∷◌, Some, None, option_map, refl, sym, ap, ◌∙◌}
use Rattle.serde_json.specs.Data.{Data}
use Rattle.serde_json.specs.Find.{as_array}
use Rattle.serde_json.specs.View as seen
use Rattle.json_notation.specs.Json.{items_of}
use Rattle.transact_profile.specs.Members.{items_in}

pub listed : (ds : List Data) → items_of (seen.items_of ds) ≡ ds
listed [] = refl
listed (d ∷ ds) = ap (λ r. d ∷ r) (listed ds)

pub listed_some : (ds : List Data) (d : Data) → Some (seen.items_of ds) ≡ as_array d → Some ds ≡ items_in d
listed_some ds d e = ap Some (sym (listed ds)) ∙ ap (option_map items_of) e

pub listed_none : (d : Data) → None ≡ as_array d → None ≡ items_in d
listed_none d e = ap (option_map items_of) e
