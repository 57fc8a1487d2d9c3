-- Lists, told by what is in them.
use Rattle.std.proofs.Common.{◌≡◌, inl, inr, Bool, true, false, cond, ◌||◌, List, [], ◌∷◌, map, is_some, Some, refl, sym, ap, ◌∙◌, true≢false}
use Rattle.std.specs.List.{filter, list_any, list_all}
use Rattle.std.specs.Cmp.{first_so, second_so}
use Rattle.vtep_rows.specs.Row.{first}
use Rattle.vtep_rows.proofs.Entries.{both, same_some}
use Rattle.forward_program.specs.Built.{IsIn}

module _ {A : Type 0} where
  -- what some pass, one that is in the list passes
  pub any_in : (p : A → Bool) (xs : List A) → list_any p xs ≡ true → (x : A) × IsIn x xs × (p x ≡ true)
  any_in p [] h = absurd (true≢false (sym h))
  any_in p (x ∷ xs) h = by (p x) refl h (any_in p xs)
    where
      by : (b : Bool) → p x ≡ b → (b || list_any p xs) ≡ true → (list_any p xs ≡ true → (y : A) × IsIn y xs × (p y ≡ true)) → (y : A) × IsIn y (x ∷ xs) × (p y ≡ true)
      by true on g rest = (x, inl refl, on)
      by false off g rest = let found = rest g in (found.0, inr found.1, found.2)

  pub in_any : (p : A → Bool) (xs : List A) (x : A) → IsIn x xs → p x ≡ true → list_any p xs ≡ true
  in_any p [] x h on = absurd h
  in_any p (y ∷ xs) x (inl same) on = ap (λ b. b || list_any p xs) (ap p (sym same) ∙ on)
  in_any p (y ∷ xs) x (inr h) on = right (p y) (in_any p xs x h on)
    where
      right : (a : Bool) → list_any p xs ≡ true → (a || list_any p xs) ≡ true
      right true g = refl
      right false g = g

  pub all_in : (p : A → Bool) (xs : List A) (x : A) → list_all p xs ≡ true → IsIn x xs → p x ≡ true
  all_in p [] x h is = absurd is
  all_in p (y ∷ xs) x h (inl same) = ap p same ∙ first_so (p y) (list_all p xs) h
  all_in p (y ∷ xs) x h (inr later) = all_in p xs x (second_so (p y) (list_all p xs) h) later

  pub in_all : (p : A → Bool) (xs : List A) → ((x : A) → IsIn x xs → p x ≡ true) → list_all p xs ≡ true
  in_all p [] so = refl
  in_all p (x ∷ xs) so = both (p x) (list_all p xs) (so x (inl refl)) (in_all p xs (λ y h. so y (inr h)))

  -- tests that agree on what is in the list
  pub filter_same : (p q : A → Bool) (xs : List A) → ((x : A) → IsIn x xs → p x ≡ q x) → filter p xs ≡ filter q xs
  filter_same p q [] same = refl
  filter_same p q (x ∷ xs) same = λ i. cond (same x (inl refl) i) (x ∷ filter_same p q xs (λ y h. same y (inr h)) i) (filter_same p q xs (λ y h. same y (inr h)) i)

  pub any_same : (p q : A → Bool) (xs : List A) → ((x : A) → IsIn x xs → p x ≡ q x) → list_any p xs ≡ list_any q xs
  any_same p q [] same = refl
  any_same p q (x ∷ xs) same = λ i. same x (inl refl) i || any_same p q xs (λ y h. same y (inr h)) i

  pub in_filter : (p : A → Bool) (xs : List A) (x : A) → IsIn x (filter p xs) → IsIn x xs × (p x ≡ true)
  in_filter p [] x h = absurd h
  in_filter p (y ∷ xs) x h = by (p y) refl h (in_filter p xs x)
    where
      by : (b : Bool) → p y ≡ b → IsIn x (cond b (y ∷ filter p xs) (filter p xs)) → (IsIn x (filter p xs) → IsIn x xs × (p x ≡ true)) → IsIn x (y ∷ xs) × (p x ≡ true)
      by true on (inl same) rest = (inl same, ap p same ∙ on)
      by true on (inr later) rest = let found = rest later in (inr found.0, found.1)
      by false off later rest = let found = rest later in (inr found.0, found.1)

  pub filter_in : (p : A → Bool) (xs : List A) (x : A) → IsIn x xs → p x ≡ true → IsIn x (filter p xs)
  filter_in p [] x h on = absurd h
  filter_in p (y ∷ xs) x h on = by (p y) refl h (λ later. filter_in p xs x later on)
    where
      by : (b : Bool) → p y ≡ b → IsIn x (y ∷ xs) → (IsIn x xs → IsIn x (filter p xs)) → IsIn x (cond b (y ∷ filter p xs) (filter p xs))
      by true here (inl same) rest = inl same
      by true here (inr later) rest = inr (rest later)
      by false off (inl same) rest = absurd (true≢false (sym on ∙ ap p same ∙ off))
      by false off (inr later) rest = rest later

  pub none_passes : (p : A → Bool) (xs : List A) → ((x : A) → IsIn x xs → p x ≡ false) → filter p xs ≡ []
  none_passes p [] so = refl
  none_passes p (x ∷ xs) so = ap (λ b. cond b (x ∷ filter p xs) (filter p xs)) (so x (inl refl)) ∙ none_passes p xs (λ y h. so y (inr h))

module _ {A B : Type 0} (f : A → B) (p : A → Bool) where
  -- the first that passes
  pub first_picked : (xs : List A) (y : B) → first (map f (filter p xs)) ≡ Some y → (x : A) × IsIn x xs × (p x ≡ true) × (f x ≡ y)
  first_picked [] y is = cc
  first_picked (x ∷ xs) y is = by (p x) refl is (first_picked xs y)
    where
      by : (b : Bool) → p x ≡ b → first (map f (cond b (x ∷ filter p xs) (filter p xs))) ≡ Some y → (first (map f (filter p xs)) ≡ Some y → (z : A) × IsIn z xs × (p z ≡ true) × (f z ≡ y))
          → (z : A) × IsIn z (x ∷ xs) × (p z ≡ true) × (f z ≡ y)
      by true on found rest = (x, inl refl, on, same_some (f x) y found)
      by false off found rest = let later = rest found in (later.0, inr later.1, later.2, later.3)

  pub some_picked : (xs : List A) (x : A) → IsIn x xs → p x ≡ true → is_some (first (map f (filter p xs))) ≡ true
  some_picked [] x h on = absurd h
  some_picked (y ∷ xs) x h on = by (p y) refl h (λ later. some_picked xs x later on)
    where
      by : (b : Bool) → p y ≡ b → IsIn x (y ∷ xs) → (IsIn x xs → is_some (first (map f (filter p xs))) ≡ true) → is_some (first (map f (cond b (y ∷ filter p xs) (filter p xs)))) ≡ true
      by true here is rest = refl
      by false off (inl same) rest = absurd (true≢false (sym on ∙ ap p same ∙ off))
      by false off (inr later) rest = rest later
