-- Maps that are filled entry by entry, and lists that are gone through one by one.
use Rattle.std.proofs.Common.{◌≡◌, ◌+◌, ◌<◌, ℕ, List, [], ◌∷◌, ◌++◌, length, get_or, drop, Result, Ok, Err, OnOk, refl, sym, ap, ◌∙◌}
use Rattle.std.proofs.lemmas.List.{drop_more}
use Rattle.std.specs.List.{flat_map}
use Rattle.std.specs.declared.cmp.Ordering.{Ordering}
use Rattle.vtep_base.specs.Maps as maps
use Rattle.vtep_base.specs.Maps.{Map}
use Rattle.vtep_rows.specs.Row.{put_all}

module _ {K X : Type 0} {R : K → K → Ordering} where
  pub put_all-append : (m : Map R X) (xs ys : List (K × X)) → put_all m (xs ++ ys) ≡ put_all (put_all m xs) ys
  put_all-append m [] ys = refl
  put_all-append m (e ∷ xs) ys = put_all-append (maps.insert m e.0 e.1) xs ys

  -- one more item of a list whose items each have entries
  pub one_put : {A : Type 0} (f : A → List (K × X)) (m n : Map R X) (items : List A) (i : ℕ) (d : A) → i < length items → n ≡ put_all m (f (get_or items i d))
      → put_all n (flat_map f (drop (i + 1) items)) ≡ put_all m (flat_map f (drop i items))
  one_put f m n items i d lt e =
      ap (λ p. put_all p (flat_map f (drop (i + 1) items))) e ∙ sym (put_all-append m (f (get_or items i d)) (flat_map f (drop (i + 1) items)))
      ∙ sym (ap (λ ys. put_all m (flat_map f ys)) (drop_more items i d lt))

  -- the same of a list of which the rest is left
  pub one_given : {A : Type 0} (f : A → List (K × X)) (m n : Map R X) (x : A) (rest left : List A) → left ≡ x ∷ rest → n ≡ put_all m (f x) → put_all n (flat_map f rest) ≡ put_all m (flat_map f left)
  one_given f m n x rest left is e =
      ap (λ p. put_all p (flat_map f rest)) e ∙ sym (put_all-append m (f x) (flat_map f rest)) ∙ sym (ap (λ ys. put_all m (flat_map f ys)) is)

-- what follows on success
pub ok_so : {T E P Q : Type 0} (r : Result T E) → (P → Q) → OnOk r P → OnOk r Q
ok_so (Ok x) f p = f p
ok_so (Err e) f p = tt
