-- Entries that are placed one by one stand in order, and are the ones that were given.
use Rattle.std.proofs.Common.{◌≡◌, ℕ, ◌≤◌, Bool, true, false, not, cond, ◌&&◌, List, [], ◌∷◌, ◌++◌, map, length, fold, insert, position, unwrap_or, refl, sym, ap, subst, ◌∙◌, if◌then◌else◌, nat_eq, arith, suc, ◌+◌, IsPermutation, append-nil}
use Rattle.std.specs.Prelude.{⊤}
use Rattle.std.specs.List.{list_all, position_or_len, IsDistinct, AllByRecursion}
use Rattle.std.proofs.lemmas.Bool.Decides.{nat_tests}
use Rattle.std.proofs.lemmas.List.Sorted.{IsPermutation-refl, IsPermutation-cons, IsPermutation-middle, IsPermutation-trans, IsPermutation-append_left}
use Rattle.acl_rules.specs.declared.entry.Entry.{Entry}
use Rattle.acl_rules.specs.Permits.{before, IsOrdered, placed, in_order}

pub both : (a b : Bool) → a && b ≡ true → (a ≡ true) × (b ≡ true)
both true true e = (refl, refl)
both true false e = absurd (cc)
both false b e = absurd (cc)

two : (a b : Bool) → a ≡ true → b ≡ true → a && b ≡ true
two true b e f = f
two false b e f = absurd (cc)

-- ---- the order

before-trans : (a b c : Entry) → before a b ≡ true → before b c ≡ true → before a c ≡ true
before-trans a b c h k = grind (arith, nat_tests)

before-connex : (a b : Entry) → before a b ≡ false → nat_eq a.id b.id ≡ false → before b a ≡ true
before-connex a b h k = grind (arith, nat_tests)

pub before-asym : (a b : Entry) → before a b ≡ true → before b a ≡ false
before-asym a b h = grind (arith, nat_tests)

pub before-irrefl : (a : Entry) → before a a ≡ false
before-irrefl a = grind (arith, nat_tests)

apart-sym : (a b : ℕ) → nat_eq a b ≡ false → nat_eq b a ≡ false
apart-sym a b h = grind (arith, nat_tests)

-- ---- where an entry goes

found_within : (p : Entry → Bool) (xs : List Entry) → position_or_len p xs ≤ length xs
found_within p [] = omega arith
found_within p (x ∷ xs) = by (p x) (found_within p xs)
  where
    by : (b : Bool) → position_or_len p xs ≤ length xs → cond (not b) (1 + position_or_len p xs) 0 ≤ length (x ∷ xs)
    by true h = omega arith
    by false h = omega (arith, h)

placed_there : (e : Entry) (xs : List Entry) → insert xs (position_or_len (before e) xs) e ≡ placed e xs
placed_there e [] = refl
placed_there e (x ∷ xs) = by (before e x) (placed_there e xs)
  where
    by : (b : Bool) → insert xs (position_or_len (before e) xs) e ≡ placed e xs
        → insert (x ∷ xs) (cond (not b) (1 + position_or_len (before e) xs) 0) e ≡ (if b then e ∷ x ∷ xs else x ∷ placed e xs)
    by true h = refl
    by false h =
        let next : 1 + position_or_len (before e) xs ≡ suc (position_or_len (before e) xs) = omega arith in
        ap (λ n. insert (x ∷ xs) n e) next ∙ ap (λ l. x ∷ l) h

or_length : (p : Entry → Bool) (xs : List Entry) → unwrap_or (position p xs) (length xs) ≡ position_or_len p xs
or_length p xs = grind (arith, nat_tests, found_within p xs)

pub insert_at-place : (e : Entry) (xs : List Entry) → insert xs (unwrap_or (position (before e) xs) (length xs)) e ≡ placed e xs
insert_at-place e xs = ap (λ n. insert xs n e) (or_length (before e) xs) ∙ placed_there e xs

-- ---- the same entries

placed_moves : (e : Entry) (xs : List Entry) → IsPermutation (e ∷ xs) (placed e xs)
placed_moves e [] = IsPermutation-refl (e ∷ [])
placed_moves e (x ∷ xs) = by (before e x) (placed_moves e xs)
  where
    by : (b : Bool) → IsPermutation (e ∷ xs) (placed e xs) → IsPermutation (e ∷ x ∷ xs) (if b then e ∷ x ∷ xs else x ∷ placed e xs)
    by true h = IsPermutation-refl (e ∷ x ∷ xs)
    by false h = IsPermutation-trans _ _ _ (IsPermutation-middle (e ∷ []) x xs) (IsPermutation-cons x _ _ h)

abbrev pub place_all : List Entry → List Entry → List Entry
place_all sorted entries = fold (λ done e. placed e done) sorted entries

all_moves : (sorted entries : List Entry) → IsPermutation (sorted ++ entries) (place_all sorted entries)
all_moves sorted [] = subst (λ l. IsPermutation l sorted) (sym (append-nil sorted)) (IsPermutation-refl sorted)
all_moves sorted (e ∷ es) =
    IsPermutation-trans _ _ _ (IsPermutation-middle sorted e es) (IsPermutation-trans _ _ _ (IsPermutation-append_left es _ _ (placed_moves e sorted)) (all_moves (placed e sorted) es))

pub in_order_moves : (entries : List Entry) → IsPermutation entries (in_order entries)
in_order_moves entries = all_moves [] entries

-- ---- in order

-- no entry of the list has the identifier of this one
abbrev Fresh : Entry → List Entry → Type 0
Fresh e xs = AllByRecursion (λ id. nat_eq e.id id ≡ false) (map (λ x. x.id) xs)

all_after : (e x : Entry) (xs : List Entry) → before e x ≡ true → list_all (before x) xs ≡ true → list_all (before e) xs ≡ true
all_after e x [] h k = refl
all_after e x (y ∷ ys) h k = let t = both _ _ k in two _ _ (before-trans e x y h t.0) (all_after e x ys h t.1)

all_before_placed : (x e : Entry) (xs : List Entry) → before x e ≡ true → list_all (before x) xs ≡ true → list_all (before x) (placed e xs) ≡ true
all_before_placed x e [] h k = two _ _ h refl
all_before_placed x e (y ∷ ys) h k = by (before e y) (all_before_placed x e ys h)
  where
    by : (b : Bool) → (list_all (before x) ys ≡ true → list_all (before x) (placed e ys) ≡ true) → list_all (before x) (if b then e ∷ y ∷ ys else y ∷ placed e ys) ≡ true
    by true rest = two _ _ h k
    by false rest = let t = both _ _ k in two _ _ t.0 (rest t.1)

ordered-placed : (e : Entry) (xs : List Entry) → Fresh e xs → IsOrdered xs → IsOrdered (placed e xs)
ordered-placed e [] f o = refl
ordered-placed e (x ∷ xs) f o = by (before e x) refl (ordered-placed e xs f.1)
  where
    by : (b : Bool) → before e x ≡ b → (IsOrdered xs → IsOrdered (placed e xs)) → IsOrdered (if b then e ∷ x ∷ xs else x ∷ placed e xs)
    by true h rest = let t = both _ _ o in two _ _ (two _ _ h (all_after e x xs h t.0)) o
    by false h rest = let t = both _ _ o in two _ _ (all_before_placed x e xs (before-connex e x h f.0) t.0) (rest t.1)

fresh-placed : (y e : Entry) (xs : List Entry) → nat_eq y.id e.id ≡ false → Fresh y xs → Fresh y (placed e xs)
fresh-placed y e [] h f = (h, tt)
fresh-placed y e (x ∷ xs) h f = by (before e x) (fresh-placed y e xs h f.1)
  where
    by : (b : Bool) → Fresh y (placed e xs) → Fresh y (if b then e ∷ x ∷ xs else x ∷ placed e xs)
    by true rest = (h, f)
    by false rest = (f.0, rest)

-- no entry of the one list has the identifier of one of the other
abbrev AllFresh : List Entry → List Entry → Type 0
AllFresh [] sorted = ⊤
AllFresh (e ∷ es) sorted = Fresh e sorted × AllFresh es sorted

all_fresh-placed : (e : Entry) (es sorted : List Entry) → Fresh e es → AllFresh es sorted → AllFresh es (placed e sorted)
all_fresh-placed e [] sorted f a = tt
all_fresh-placed e (y ∷ ys) sorted f a = (fresh-placed y e sorted (apart-sym e.id y.id f.0) a.0, all_fresh-placed e ys sorted f.1 a.1)

all_ordered : (sorted entries : List Entry) → IsOrdered sorted → AllFresh entries sorted → IsDistinct nat_eq (map (λ e. e.id) entries) → IsOrdered (place_all sorted entries)
unfolding IsDistinct
all_ordered sorted [] o a d = o
all_ordered sorted (e ∷ es) o a d = all_ordered (placed e sorted) es (ordered-placed e sorted a.0 o) (all_fresh-placed e es sorted d.0 a.1) d.1

fresh_to_none : (es : List Entry) → AllFresh es []
fresh_to_none [] = tt
fresh_to_none (e ∷ es) = (tt, fresh_to_none es)

pub ordered-in_order : (entries : List Entry) → IsDistinct nat_eq (map (λ e. e.id) entries) → IsOrdered (in_order entries)
ordered-in_order entries d = all_ordered [] entries refl (fresh_to_none entries) d
