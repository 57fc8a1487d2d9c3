-- What is in a list.
use Rattle.std.proofs.Common.{◌≡◌, ◌⊎◌, inl, inr, List, [], ◌∷◌, ◌++◌, map, Option, Some, None, refl, sym, ap, ◌∙◌, subst}
use Rattle.std.specs.List.{filter_map, flat_map, cons_option}
use Rattle.forward_program.specs.Built.{IsIn}

module _ {A : Type 0} where
  pub in_front : (x : A) (xs ys : List A) → IsIn x xs → IsIn x (xs ++ ys)
  in_front x [] ys h = absurd h
  in_front x (y ∷ xs) ys (inl e) = inl e
  in_front x (y ∷ xs) ys (inr h) = inr (in_front x xs ys h)

  pub in_back : (x : A) (xs ys : List A) → IsIn x ys → IsIn x (xs ++ ys)
  in_back x [] ys h = h
  in_back x (y ∷ xs) ys h = inr (in_back x xs ys h)

  pub in_either : (x : A) (xs ys : List A) → IsIn x (xs ++ ys) → IsIn x xs ⊎ IsIn x ys
  in_either x [] ys h = inr h
  in_either x (y ∷ xs) ys (inl e) = inl (inl e)
  in_either x (y ∷ xs) ys (inr h) = elim (in_either x xs ys h) [ inl g ↦ inl (inr g) | inr g ↦ inr g ]

module _ {A B : Type 0} where
  pub in_flat : (f : A → List B) (y : B) (xs : List A) → IsIn y (flat_map f xs) → (x : A) × IsIn x xs × IsIn y (f x)
  in_flat f y [] h = absurd h
  in_flat f y (x ∷ xs) h = elim (in_either y (f x) (flat_map f xs) h) [ inl g ↦ (x, inl refl, g) | inr g ↦ (let p = in_flat f y xs g in (p.0, inr p.1, p.2)) ]

  pub flat_in : (f : A → List B) (y : B) (x : A) (xs : List A) → IsIn x xs → IsIn y (f x) → IsIn y (flat_map f xs)
  flat_in f y x [] g h = absurd g
  flat_in f y x (z ∷ xs) (inl e) h = in_front y (f z) (flat_map f xs) (subst (λ w. IsIn y (f w)) e h)
  flat_in f y x (z ∷ xs) (inr g) h = in_back y (f z) (flat_map f xs) (flat_in f y x xs g h)

  pub in_map : (f : A → B) (y : B) (xs : List A) → IsIn y (map f xs) → (x : A) × IsIn x xs × (y ≡ f x)
  in_map f y [] h = absurd h
  in_map f y (x ∷ xs) (inl e) = (x, inl refl, e)
  in_map f y (x ∷ xs) (inr h) = let p = in_map f y xs h in (p.0, inr p.1, p.2)

  pub map_in : (f : A → B) (x : A) (xs : List A) → IsIn x xs → IsIn (f x) (map f xs)
  map_in f x [] h = absurd h
  map_in f x (y ∷ xs) (inl e) = inl (ap f e)
  map_in f x (y ∷ xs) (inr h) = inr (map_in f x xs h)

  pub in_picked : (f : A → Option B) (y : B) (xs : List A) → IsIn y (filter_map f xs) → (x : A) × IsIn x xs × (f x ≡ Some y)
  in_picked f y [] h = absurd h
  in_picked f y (x ∷ xs) h = by (f x) refl (in_picked f y xs) h
    where
      by : (o : Option B) → f x ≡ o → (IsIn y (filter_map f xs) → (z : A) × IsIn z xs × (f z ≡ Some y)) → IsIn y (cons_option o (filter_map f xs)) → (z : A) × IsIn z (x ∷ xs) × (f z ≡ Some y)
      by None e rest g = let p = rest g in (p.0, inr p.1, p.2)
      by (Some z) e rest (inl g) = (x, inl refl, e ∙ ap Some (sym g))
      by (Some z) e rest (inr g) = let p = rest g in (p.0, inr p.1, p.2)

  pub picked_in : (f : A → Option B) (y : B) (x : A) (xs : List A) → IsIn x xs → f x ≡ Some y → IsIn y (filter_map f xs)
  picked_in f y x [] h e = absurd h
  picked_in f y x (z ∷ xs) (inl g) e = subst (λ o. IsIn y (cons_option o (filter_map f xs))) (sym e ∙ ap f g) (inl refl)
  picked_in f y x (z ∷ xs) (inr h) e = elim (f z) as (λ o. IsIn y (cons_option o (filter_map f xs))) [ None ↦ picked_in f y x xs h e | Some w ↦ inr (picked_in f y x xs h e) ]
