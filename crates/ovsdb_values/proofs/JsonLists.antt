-- Items of arrays as lists.
use Rattle.std.proofs.Common.{◌≡◌, List, [], ◌∷◌, ◌++◌, map, Option, Some, None, option_map, refl, ap, sym, ◌∙◌, append_assoc, append-nil}
use Rattle.std.specs.List.{AllByRecursion}
use Rattle.std.specs.Prelude.{option_and_then}
use Rattle.serde_json.specs.Data.{Data}
use Rattle.serde_json.specs.Find.{as_array}
use Rattle.serde_json.specs.View as seen
use Rattle.json_notation.specs.Json.{items_of, to_items, list_of}
use Rattle.ovsdb_values.specs.Notation.{each_from}

pub listed : (ds : List Data) → items_of (seen.items_of ds) ≡ ds
listed [] = refl
listed (d ∷ ds) = ap (λ r. d ∷ r) (listed ds)

pub held : (ds : List Data) → items_of (to_items ds) ≡ ds
held [] = refl
held (d ∷ ds) = ap (λ r. d ∷ r) (held ds)

of_array : (d : Data) → list_of d ≡ option_map items_of (as_array d)
of_array Data.null = refl
of_array (Data.boolean b) = refl
of_array (Data.number n) = refl
of_array (Data.string s) = refl
of_array (Data.array ds) = refl
of_array (Data.object ms) = refl

pub listed_some : (ds : List Data) (d : Data) → Some (seen.items_of ds) ≡ as_array d → Some ds ≡ list_of d
listed_some ds d e = ap Some (sym (listed ds)) ∙ ap (option_map items_of) e ∙ sym (of_array d)

pub listed_none : (d : Data) → None ≡ as_array d → None ≡ list_of d
listed_none d e = ap (option_map items_of) e ∙ sym (of_array d)

-- what is written item by item is read item by item
pub each_back : {A : Type 0} (f : Data → Option A) (g : A → Data) (done xs : List A) → AllByRecursion (λ x. f (g x) ≡ Some x) xs → each_from f done (map g xs) ≡ Some (done ++ xs)
each_back f g done [] h = ap Some (sym (append-nil done))
each_back f g done (x ∷ xs) h =
    ap (option_and_then (λ a. each_from f (done ++ a ∷ []) (map g xs))) h.0 ∙ each_back f g (done ++ x ∷ []) xs h.1 ∙ ap Some (append_assoc done (x ∷ []) xs)
