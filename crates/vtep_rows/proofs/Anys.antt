-- Whether some element passes a test.
use Rattle.std.proofs.Common.{◌≡◌, ℕ, ◌+◌, Bool, true, false, cond, ◌&&◌, ◌||◌, nat_lt, List, [], ◌∷◌, refl, sym, ap, ◌∙◌, arith}
use Rattle.std.proofs.lemmas.Bool.Decides.{nat_tests}
use Rattle.std.proofs.lemmas.List.Sums.{sum_by-cons}
use Rattle.std.specs.List.{filter, list_any, sum_by, count_by}

swapped : (a b c d : Bool) → ((a || b) || (c || d)) ≡ ((a || c) || (b || d))
swapped true b c d = refl
swapped false true true d = refl
swapped false true false d = refl
swapped false false c d = refl

later : (a b c : Bool) → ((a && c) || (b && c)) ≡ ((a || b) && c)
later true true true = refl
later true true false = refl
later true false true = refl
later true false false = refl
later false b c = refl

some_sum : (n s : ℕ) → nat_lt 0 (n + s) ≡ (nat_lt 0 n || nat_lt 0 s)
some_sum n s = by (nat_lt 0 n) refl
  where
    by : (b : Bool) → nat_lt 0 n ≡ b → nat_lt 0 (n + s) ≡ (nat_lt 0 n || nat_lt 0 s)
    by true e =
        let above : nat_lt 0 (n + s) ≡ true = grind (arith, nat_tests, e) in
        above ∙ sym (ap (λ b. b || nat_lt 0 s) e)
    by false e =
        let none : n ≡ 0 = grind (arith, nat_tests, e) in
        let rest : n + s ≡ s = omega (arith, none) in
        ap (nat_lt 0) rest ∙ sym (ap (λ b. b || nat_lt 0 s) e)

one_if : (b : Bool) → nat_lt 0 (cond b 1 0) ≡ b
one_if true = refl
one_if false = refl

module _ {A : Type 0} where
  pub any_alike : (p q : A → Bool) → ((x : A) → p x ≡ q x) → (xs : List A) → list_any p xs ≡ list_any q xs
  any_alike p q alike [] = refl
  any_alike p q alike (x ∷ xs) = λ i. alike x i || any_alike p q alike xs i

  pub any_filter : (p q : A → Bool) (xs : List A) → list_any p (filter q xs) ≡ list_any (λ x. q x && p x) xs
  any_filter p q [] = refl
  any_filter p q (x ∷ xs) =
      elim (q x) as (λ b. list_any p (cond b (x ∷ filter q xs) (filter q xs)) ≡ ((b && p x) || list_any (λ y. q y && p y) xs)) [
        | true ↦ ap (λ b. p x || b) (any_filter p q xs)
        | false ↦ any_filter p q xs
      ]

  pub any_none : (xs : List A) → list_any (λ x. false) xs ≡ false
  any_none [] = refl
  any_none (x ∷ xs) = any_none xs

  pub any_and : (p : A → Bool) (b : Bool) (xs : List A) → list_any (λ x. p x && b) xs ≡ (list_any p xs && b)
  any_and p b [] = refl
  any_and p b (x ∷ xs) = ap (λ c. (p x && b) || c) (any_and p b xs) ∙ later (p x) (list_any p xs) b

  pub any_either : (p q : A → Bool) (xs : List A) → list_any (λ x. p x || q x) xs ≡ (list_any p xs || list_any q xs)
  any_either p q [] = refl
  any_either p q (x ∷ xs) = ap (λ c. (p x || q x) || c) (any_either p q xs) ∙ swapped (p x) (q x) (list_any p xs) (list_any q xs)

  -- a sum is not 0 where some part is not
  pub some_part : (f : A → ℕ) (xs : List A) → nat_lt 0 (sum_by f xs) ≡ list_any (λ x. nat_lt 0 (f x)) xs
  some_part f [] = refl
  some_part f (x ∷ xs) = ap (nat_lt 0) (sum_by-cons f x xs) ∙ some_sum (f x) (sum_by f xs) ∙ ap (λ b. nat_lt 0 (f x) || b) (some_part f xs)

  pub some_counted : (p : A → Bool) (xs : List A) → nat_lt 0 (count_by p xs) ≡ list_any p xs
  some_counted p xs = some_part (λ x. cond (p x) 1 0) xs ∙ any_alike _ _ (λ x. one_if (p x)) xs

module _ {A B : Type 0} where
  pub any_swap : (p : A → B → Bool) (xs : List A) (ys : List B) → list_any (λ x. list_any (p x) ys) xs ≡ list_any (λ y. list_any (λ x. p x y) xs) ys
  any_swap p [] ys = sym (any_none ys)
  any_swap p (x ∷ xs) ys = ap (λ b. list_any (p x) ys || b) (any_swap p xs ys) ∙ sym (any_either (p x) (λ y. list_any (λ z. p z y) xs) ys)
