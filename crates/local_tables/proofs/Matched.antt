-- A list whose elements have partners of their own in another is no longer than that.
use Rattle.std.proofs.Common.{◌≡◌, ◌⊎◌, inl, inr, ℕ, suc, ◌<◌, ◌≤◌, List, [], ◌∷◌, length, refl, sym, ap, ◌∙◌, subst, arith}
use Rattle.forward_program.specs.Built.{IsIn, AreApart}
use Rattle.forward_program.proofs.Ascending.{Over, Ascending}

module _ {A : Type 0} where
  -- the others of a list
  pub record Others (y : A) (ys : List A) : Type 0 where
    pub rest : List A
    pub one_more : length ys ≡ suc (length rest)
    pub each : (z : A) → IsIn z ys → (z ≡ y) ⊎ IsIn z rest

  pub others_of : (y : A) (ys : List A) → IsIn y ys → Others y ys
  others_of y [] h = absurd h
  others_of y (x ∷ xs) (inl same) = record { rest = xs; one_more = refl; each = λ z h. elim h [ inl is ↦ inl (is ∙ sym same) | inr later ↦ inr later ] }
  others_of y (x ∷ xs) (inr later) =
      let found = others_of y xs later in record {
        rest = x ∷ found.rest;
        one_more = ap suc found.one_more;
        each = λ z h. elim h [ inl is ↦ inr (inl is) | inr there ↦ elim (found.each z there) [ inl same ↦ inl same | inr other ↦ inr (inr other) ] ];
      }

-- each has a partner, and none is that of two
pub no_longer : {A B : Type 0} (Fits : A → B → Type 0) (xs : List A) (ys : List B) → AreApart xs → ((x : A) → IsIn x xs → (y : B) × IsIn y ys × Fits x y) → ((x z : A) (y : B) → Fits x y → Fits z y → x ≡ z) → length xs ≤ length ys
no_longer Fits [] ys apart partner alone = omega arith
no_longer {A} {B} Fits (x ∷ xs) ys apart partner alone =
    let mine = partner x (inl refl) in
    let found = others_of mine.0 ys mine.1 in
    let rest : length xs ≤ length found.rest = no_longer Fits xs found.rest apart.1 (λ z h. other found z h (partner z (inr h)) mine.2) alone in
    let more : length ys ≡ suc (length found.rest) = found.one_more in
    omega (arith, rest, more)
  where
    other : {y : B} (found : Others y ys) (z : A) → IsIn z xs → (w : B) × IsIn w ys × Fits z w → Fits x y → (w : B) × IsIn w found.rest × Fits z w
    other {y} found z h theirs fits = elim (found.each theirs.0 theirs.1) [
      | inl same ↦ absurd (apart.0 (subst (λ a. IsIn a xs) (sym (alone x z y fits (subst (Fits z) same theirs.2))) h))
      | inr there ↦ (theirs.0, there, theirs.2)
    ]

over_in : (n : ℕ) (xs : List ℕ) (i : ℕ) → Over n xs → IsIn i xs → n < i
over_in n [] i h is = absurd is
over_in n (x ∷ xs) i h (inl same) = subst (λ m. n < m) (sym same) h.0
over_in n (x ∷ xs) i h (inr later) = over_in n xs i h.1 later

-- ascending numbers are apart
pub ascending_apart : (xs : List ℕ) → Ascending xs → AreApart xs
ascending_apart [] h = tt
ascending_apart (x ∷ xs) h = (λ is. let lt : x < x = over_in x xs x h.0 is in omega (arith, lt), ascending_apart xs h.1)
