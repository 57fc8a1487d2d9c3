-- Members of lists.
use Rattle.std.proofs.Common.{◌≡◌, inl, inr, Bool, true, false, cond, List, [], ◌∷◌, map, is_some, Some, refl, sym, ap, ◌∙◌, subst}
use Rattle.std.specs.Prelude.{find}
use Rattle.std.specs.List.{filter, list_all}
use Rattle.std.specs.Cmp.{first_so, second_so}
use Rattle.vtep_rows.specs.Row.{first}
use Rattle.vtep_rows.proofs.Entries.{same_some}
use Rattle.forward_program.specs.Built.{IsIn}

module _ {A : Type 0} (test : A → Bool) where
  -- what is found is there
  pub found_in : (xs : List A) (x : A) → find test xs ≡ Some x → IsIn x xs
  found_in [] x is = absurd (cc)
  found_in (y ∷ ys) x is = by (test y) (found_in ys x) is
    where
      by : (b : Bool) → (find test ys ≡ Some x → IsIn x ys) → cond b (Some y) (find test ys) ≡ Some x → IsIn x (y ∷ ys)
      by true rest found = inl (sym (same_some y x found))
      by false rest found = inr (rest found)

  pub in_filter : (x : A) (xs : List A) → IsIn x (filter test xs) → (test x ≡ true) × IsIn x xs
  in_filter x [] h = absurd h
  in_filter x (y ∷ ys) h = by (test y) refl (in_filter x ys) h
    where
      by : (b : Bool) → test y ≡ b → (IsIn x (filter test ys) → (test x ≡ true) × IsIn x ys) → IsIn x (cond b (y ∷ filter test ys) (filter test ys)) → (test x ≡ true) × IsIn x (y ∷ ys)
      by true e rest (inl is) = (ap test is ∙ e, inl is)
      by true e rest (inr g) = let r = rest g in (r.0, inr r.1)
      by false e rest g = let r = rest g in (r.0, inr r.1)

  pub filter_in : (x : A) (xs : List A) → test x ≡ true → IsIn x xs → IsIn x (filter test xs)
  filter_in x [] passes h = absurd h
  filter_in x (y ∷ ys) passes (inl is) = subst (λ b. IsIn x (cond b (y ∷ filter test ys) (filter test ys))) (sym (ap test (sym is) ∙ passes)) (inl is)
  filter_in x (y ∷ ys) passes (inr h) = elim (test y) as (λ b. IsIn x (cond b (y ∷ filter test ys) (filter test ys))) [ true ↦ inr (filter_in x ys passes h) | false ↦ filter_in x ys passes h ]

  -- what all pass, one of them passes
  pub all_in : (x : A) (xs : List A) → list_all test xs ≡ true → IsIn x xs → test x ≡ true
  all_in x [] h is = absurd is
  all_in x (y ∷ ys) h (inl e) = ap test e ∙ first_so (test y) (list_all test ys) h
  all_in x (y ∷ ys) h (inr is) = all_in x ys (second_so (test y) (list_all test ys) h) is

pub some_first : {A B : Type 0} (f : A → B) (x : A) (xs : List A) → IsIn x xs → is_some (first (map f xs)) ≡ true
some_first f x [] h = absurd h
some_first f x (y ∷ ys) h = refl
