-- Entries that are placed one by one stand in the order of their sequence.
use Rattle.std.proofs.Common.{◌≡◌, ℕ, zero, ◌≤◌, ◌<◌, Bool, true, false, not, cond, List, [], ◌∷◌, map, length, fold, get_or, drop, insert, position, unwrap_or, refl, sym, ap, ◌∙◌, if◌then◌else◌, arith, suc, ◌+◌}
use Rattle.std.specs.Prelude.{nat_lt}
use Rattle.std.specs.List.{position_or_len}
use Rattle.std.proofs.lemmas.Bool.Decides.{nat_tests}
use Rattle.fabric_world.specs.declared.WantedEntry.{WantedEntry}
use Rattle.fabric_world.specs.Intentions.{placed}
use Rattle.vtep_fabric.proofs.Ascending.{dropped}

module _ {A : Type 0} where
  found_within : (p : A → Bool) (xs : List A) → position_or_len p xs ≤ length xs
  found_within p [] = omega arith
  found_within p (x ∷ xs) = by (p x) (found_within p xs)
    where
      by : (b : Bool) → position_or_len p xs ≤ length xs → cond (not b) (1 + position_or_len p xs) 0 ≤ length (x ∷ xs)
      by true h = omega arith
      by false h = omega (arith, h)

  or_length : (p : A → Bool) (xs : List A) → unwrap_or (position p xs) (length xs) ≡ position_or_len p xs
  or_length p xs = grind (arith, nat_tests, found_within p xs)

  pub place_within : (p : A → Bool) (xs : List A) → unwrap_or (position p xs) (length xs) ≤ length xs
  place_within p xs = rw (or_length p xs) (found_within p xs)

  -- the entries behind pointers
  module _ (at : A → WantedEntry) where
    placed_there : (e : WantedEntry) (xs : List A) → insert (map at xs) (position_or_len (λ x. nat_lt e.sequence (at x).sequence) xs) e ≡ placed e (map at xs)
    placed_there e [] = refl
    placed_there e (x ∷ xs) = by (nat_lt e.sequence (at x).sequence) (placed_there e xs)
      where
        by : (b : Bool) → insert (map at xs) (position_or_len (λ x. nat_lt e.sequence (at x).sequence) xs) e ≡ placed e (map at xs)
            → insert (at x ∷ map at xs) (cond (not b) (1 + position_or_len (λ x. nat_lt e.sequence (at x).sequence) xs) 0) e ≡ (if b then e ∷ at x ∷ map at xs else at x ∷ placed e (map at xs))
        by true h = refl
        by false h =
            let next : 1 + position_or_len (λ x. nat_lt e.sequence (at x).sequence) xs ≡ suc (position_or_len (λ x. nat_lt e.sequence (at x).sequence) xs) = omega arith in
            ap (λ n. insert (at x ∷ map at xs) n e) next ∙ ap (λ l. at x ∷ l) h

    pub goes_there : (e : WantedEntry) (xs : List A) → insert (map at xs) (unwrap_or (position (λ x. nat_lt e.sequence (at x).sequence) xs) (length xs)) e ≡ placed e (map at xs)
    goes_there e xs = ap (λ n. insert (map at xs) n e) (or_length (λ x. nat_lt e.sequence (at x).sequence) xs) ∙ placed_there e xs

    pub map_insert : (xs : List A) (i : ℕ) (x : A) → i ≤ length xs → map at (insert xs i x) ≡ insert (map at xs) i (at x)
    map_insert xs zero x h = refl
    map_insert [] (suc i) x h = absurd (omega (arith, h))
    map_insert (y ∷ ys) (suc i) x h = ap (λ l. at y ∷ l) (map_insert ys i x (omega (arith, h)))

    -- an entry more
    pub entry_placed : (old new : List A) (all es : List WantedEntry) (i : ℕ) (e : WantedEntry) (p : ℕ) (x : A) → i < length es → e ≡ get_or es i e → at x ≡ e → p ≤ length old → new ≡ insert old p x
        → insert (map at old) p e ≡ placed e (map at old)
        → fold (λ sorted e. placed e sorted) (map at old) (drop i es) ≡ all → fold (λ sorted e. placed e sorted) (map at new) (drop (i + 1) es) ≡ all
    entry_placed old new all es i e p x h is same within put place inv =
        ap (λ sorted. fold (λ sorted e. placed e sorted) sorted (drop (i + 1) es)) (ap (map at) put ∙ map_insert old p x within ∙ ap (insert (map at old) p) same ∙ place)
        ∙ ap (fold (λ sorted e. placed e sorted) (map at old)) (sym (dropped es i e h is)) ∙ inv
