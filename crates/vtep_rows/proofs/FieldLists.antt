-- Lists of entries in the order of their keys, as finite maps.
use Rattle.std.proofs.Common.{◌≡◌, ℕ, suc, ◌+◌, ◌<◌, ◌≤◌, T, List, [], ◌∷◌, length, insert, slice_set, Result, Ok, Err, OnOk, OnErr, refl, sym, ap, subst, ◌∙◌, arith}
use Rattle.std.specs.Ordering.{is_lt}
use Rattle.std.specs.Cmp.{IsTotalOrder}
use Rattle.std.specs.declared.cmp.Ordering.{Ordering}
use Rattle.std.specs.declared.cmp.Ordering.TheVariants.{Less, Equal, Greater}
use Rattle.std.specs.FinMap.{put, is_sorted, IsAntisymmetric}
use Rattle.std.specs.FinMap.Entries.{by_order, below_all, is_sorted-put}
use Rattle.vtep_base.specs.Maps as maps
use Rattle.vtep_base.specs.Maps.{Map}
use Rattle.vtep_rows.specs.Places.{behind, place_in}
use Rattle.vtep_rows.proofs.Entries.{less, t_first, t_second}

-- at this place the entry replaces one of a list, or comes between, and gives another list
abbrev pub Makes : {E : Type 0} → List E → E → List E → Result ℕ ℕ → Type 0
Makes es x fs (Ok i) = (i < length es) × (slice_set es i x ≡ fs)
Makes es x fs (Err i) = (i ≤ length es) × (insert es i x ≡ fs)

one_more : (i : ℕ) → 1 + i ≡ suc i
one_more i = omega arith

behind_one : {E : Type 0} (e : E) (es : List E) (x : E) (fs : List E) (p : Result ℕ ℕ) → Makes es x fs p → Makes (e ∷ es) x (e ∷ fs) (behind 1 p)
behind_one e es x fs (Ok i) h =
    let within : i < length es = h.0 in
    (omega (arith, within), ap (λ n. slice_set (e ∷ es) n x) (one_more i) ∙ ap (λ ys. e ∷ ys) h.1)
behind_one e es x fs (Err i) h =
    let within : i ≤ length es = h.0 in
    (omega (arith, within), ap (λ n. insert (e ∷ es) n x) (one_more i) ∙ ap (λ ys. e ∷ ys) h.1)

module _ {K X : Type 0} {R : K → K → Ordering} where
  pub placed : IsAntisymmetric R → (k : K) (v : X) (es : List (K × X)) → Makes es (k, v) (put R k v es) (place_in R k es)
  placed same k v [] = (omega arith, refl)
  placed same k v (e ∷ es) =
      elim (R k e.0) as (λ r. R k e.0 ≡ r → Makes (e ∷ es) (k, v) (by_order r ((k, v) ∷ e ∷ es) ((e.0, v) ∷ es) (e ∷ put R k v es)) (by_order r (Err 0) (Ok 0) (behind 1 (place_in R k es)))) [
        | Less ↦ λ _. (omega arith, refl)
        | Equal ↦ λ tie. (omega arith, ap (λ x. (x, v) ∷ es) (same k e.0 tie))
        | Greater ↦ λ _. behind_one e es (k, v) (put R k v es) (place_in R k es) (placed same k v es)
      ] refl

  pub placed_as : IsAntisymmetric R → (k : K) (v : X) (es xs : List (K × X)) (p q : Result ℕ ℕ) → p ≡ place_in R k xs → xs ≡ es → p ≡ q → Makes es (k, v) (put R k v es) q
  placed_as same k v es xs p q is of at = subst (Makes es (k, v) (put R k v es)) (sym (ap (place_in R k) of) ∙ sym is ∙ at) (placed same k v es)

module _ {K X : Type 0} (R : K → K → Ordering) where
  put_front : (k : K) (v : X) (es : List (K × X)) → T (below_all R k es) → put R k v es ≡ (k, v) ∷ es
  put_front k v [] h = refl
  put_front k v (e ∷ es) h = ap (λ r. by_order r ((k, v) ∷ e ∷ es) ((e.0, v) ∷ es) (e ∷ put R k v es)) (less (R k e.0) (t_first (is_lt (R k e.0)) (below_all R k es) h))

module _ {K X : Type 0} {R : K → K → Ordering} (o : IsTotalOrder R) where
  pub list-sorted : (es : List (K × X)) → T (is_sorted R es) → (maps.of_list {R = R} es).list ≡ es
  list-sorted [] h = refl
  list-sorted (e ∷ es) h =
      maps.list-insert o (maps.of_list es) e.0 e.1
      ∙ ap (put R e.0 e.1) (list-sorted es (t_second (below_all R e.0 es) (is_sorted R es) h))
      ∙ put_front R e.0 e.1 es (t_first (below_all R e.0 es) (is_sorted R es) h)

  pub sorted_put : (es fs : List (K × X)) (k : K) (v : X) → T (is_sorted R es) → fs ≡ put R k v es → T (is_sorted R fs)
  sorted_put es fs k v h e = subst (λ xs. T (is_sorted R xs)) (sym e) (is_sorted-put R o k v es h)

  pub sorted_after : {A F : Type 0} (r : Result A F) (es fs : List (K × X)) (k : K) (v : X) → T (is_sorted R es) → OnOk r (fs ≡ put R k v es) → OnErr r (fs ≡ es) → T (is_sorted R fs)
  sorted_after (Ok x) es fs k v h done failed = sorted_put es fs k v h done
  sorted_after (Err x) es fs k v h done failed = subst (λ xs. T (is_sorted R xs)) (sym failed) h

  pub of_list-put : (es fs : List (K × X)) (k : K) (v : X) → T (is_sorted R es) → fs ≡ put R k v es → maps.of_list {R = R} fs ≡ maps.insert (maps.of_list es) k v
  of_list-put es fs k v h e =
      maps.same_list _ _ (
      list-sorted fs (sorted_put es fs k v h e) ∙ e ∙ ap (put R k v) (sym (list-sorted es h)) ∙ sym (maps.list-insert o (maps.of_list es) k v))

  pub of_list-after : {A F : Type 0} (r : Result A F) (es fs : List (K × X)) (k : K) (v : X) (m : Map R X) → T (is_sorted R es) → maps.of_list es ≡ m → OnOk r (fs ≡ put R k v es) → OnOk r (maps.of_list {R = R} fs ≡ maps.insert m k v)
  of_list-after (Ok x) es fs k v m h was done = of_list-put es fs k v h done ∙ ap (λ n. maps.insert n k v) was
  of_list-after (Err x) es fs k v m h was done = tt
