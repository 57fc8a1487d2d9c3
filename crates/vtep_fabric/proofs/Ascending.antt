-- Keys that are put at their places one after the other.
use Rattle.std.proofs.Common.{◌≡◌, ℕ, ◌+◌, ◌<◌, List, [], ◌∷◌, ◌++◌, map, length, get_or, drop, refl, sym, ap, ◌∙◌, add-one, drop-cons}
use Rattle.std.specs.List.{flat_map}
use Rattle.std.specs.BTreeSet.{insert_key}
use Rattle.std.specs.declared.cmp.Ordering.{Ordering}
use Rattle.fabric_world.specs.Installer.{with_each}

-- the item at a place, and those behind it
pub dropped : {A : Type 0} (xs : List A) (i : ℕ) (x : A) → i < length xs → x ≡ get_or xs i x → drop i xs ≡ x ∷ drop (i + 1) xs
dropped xs i x h is = drop-cons xs i x h ∙ (λ j. sym is j ∷ drop (sym (add-one i) j) xs)

module _ {K : Type 0} (R : K → K → Ordering) where
  with_each_append : (done xs ys : List K) → with_each R done (xs ++ ys) ≡ with_each R (with_each R done xs) ys
  with_each_append done [] ys = refl
  with_each_append done (x ∷ xs) ys = with_each_append (insert_key R done x) xs ys

  module _ {A : Type 0} where
    -- the keys of one more
    pub more : (f : A → List K) (old new all : List K) (x : A) (rest next : List A) → rest ≡ x ∷ next → new ≡ with_each R old (f x)
        → with_each R old (flat_map f rest) ≡ all → with_each R new (flat_map f next) ≡ all
    more f old new all x rest next is e h =
        ap (λ ks. with_each R ks (flat_map f next)) e ∙ sym (with_each_append old (f x) (flat_map f next)) ∙ ap (λ ys. with_each R old (flat_map f ys)) (sym is) ∙ h

    pub turn : (f : A → List K) (old new all : List K) (xs : List A) (i : ℕ) (x : A) → i < length xs → x ≡ get_or xs i x → new ≡ with_each R old (f x)
        → with_each R old (flat_map f (drop i xs)) ≡ all → with_each R new (flat_map f (drop (i + 1) xs)) ≡ all
    turn f old new all xs i x h is e inv = more f old new all x (drop i xs) (drop (i + 1) xs) (dropped xs i x h is) e inv

    -- one key more
    pub turn_one : (f : A → K) (old new all : List K) (xs : List A) (i : ℕ) (x : A) → i < length xs → x ≡ get_or xs i x → new ≡ insert_key R old (f x)
        → with_each R old (map f (drop i xs)) ≡ all → with_each R new (map f (drop (i + 1) xs)) ≡ all
    turn_one f old new all xs i x h is e inv =
        ap (λ ks. with_each R ks (map f (drop (i + 1) xs))) e ∙ ap (λ ys. with_each R old (map f ys)) (sym (dropped xs i x h is)) ∙ inv
