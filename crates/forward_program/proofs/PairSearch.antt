-- What a binary search finds among pairs in the order of their keys.
use Rattle.std.proofs.Common.{◌≡◌, ◌≤◌, ◌<◌, inl, inr, ℕ, zero, suc, true, false, List, [], ◌∷◌, length, get_or, Some, None, Bool, refl, sym, ap, ◌∙◌, subst, arith}
use Rattle.std.proofs.lemmas.Bool.{cases_lt}
use Rattle.std.proofs.lemmas.Map.Entries.{lookup_head, lookup_tail}
use Rattle.std.specs.List.{AllByRecursion}
use Rattle.std.specs.List.Sorted.{IsStrictlySortedBy, IsNonDecreasingBy, IsPartitionPoint}
use Rattle.std.specs.Map.{keys_of, lookup}
use Rattle.std.specs.Ordering.{eq_by_cmp, ordering_index, ordering_reverse}
use Rattle.std.specs.Cmp.{IsTotalOrder, Equal-is}
use Rattle.std.specs.FinMap.{IsAntisymmetric}
use Rattle.std.specs.declared.cmp.Ordering.{Ordering}
use Rattle.std.specs.declared.cmp.Ordering.TheVariants.{Less, Equal, Greater}

at_most : (r : Ordering) → ordering_index r ≤ 2
at_most Less = omega arith
at_most Equal = omega arith
at_most Greater = omega arith

module _ {K : Type 0} {R : K → K → Ordering} (o : IsTotalOrder R) (same : IsAntisymmetric R) where
  rises : (p q k : K) → R p q ≡ Less → ordering_index (R p k) ≤ ordering_index (R q k)
  rises p q k lt = by (R q k) refl
    where
      least : R p k ≡ Less → ordering_index (R p k) ≤ ordering_index (R q k)
      least e = subst (λ n. n ≤ ordering_index (R q k)) (sym (ap ordering_index e)) (omega arith)

      by : (r : Ordering) → R q k ≡ r → ordering_index (R p k) ≤ ordering_index (R q k)
      by Less e = least (o.trans p q k lt e)
      by Equal e = least (ap (R p) (sym (same q k e)) ∙ lt)
      by Greater e = subst (λ r. ordering_index (R p k) ≤ ordering_index r) (sym e) (at_most (R p k))

  is_not : (k x : K) → (R x k ≡ Equal → ⊥) → eq_by_cmp R k x ≡ false
  is_not k x h = by (eq_by_cmp R k x) refl
    where
      by : (b : Bool) → eq_by_cmp R k x ≡ b → b ≡ false
      by false e = refl
      by true e = absurd (h (o.antisymm x k ∙ ap ordering_reverse ((Equal-is (R k x)).0 e)))

module _ {K X : Type 0} {R : K → K → Ordering} (o : IsTotalOrder R) (same : IsAntisymmetric R) where
  key_at : (P : K → Type 0) (es : List (K × X)) (j : ℕ) (d : K × X) → AllByRecursion P (keys_of es) → j < length es → P (get_or es j d).0
  key_at P [] j d h lt = absurd (omega arith)
  key_at P (e ∷ es) zero d h lt = h.0
  key_at P (e ∷ es) (suc j) d h lt = key_at P es j d h.1 (omega arith)

  in_order : (k : K) (es : List (K × X)) → IsStrictlySortedBy R (keys_of es) → IsNonDecreasingBy (λ (e : K × X). ordering_index (R e.0 k)) es
  unfolding IsStrictlySortedBy
  in_order k [] s i j d le lt = absurd (omega arith)
  in_order k (e ∷ es) s zero zero d le lt = omega arith
  in_order k (e ∷ es) s zero (suc j) d le lt = rises o same e.0 (get_or es j d).0 k (key_at (λ x. R e.0 x ≡ Less) es j d s.0 (omega arith))
  in_order k (e ∷ es) s (suc i) zero d le lt = absurd (omega arith)
  in_order k (e ∷ es) s (suc i) (suc j) d le lt = in_order k es s.1 i j d (omega arith) (omega arith)

  pub found_at : (k : K) (es : List (K × X)) (i : ℕ) (d : K × X) → IsStrictlySortedBy R (keys_of es) → i < length es → R (get_or es i d).0 k ≡ Equal → lookup (eq_by_cmp R k) es ≡ Some (get_or es i d).1
  unfolding IsStrictlySortedBy
  found_at k [] i d s lt is = absurd (omega arith)
  found_at k (e ∷ es) zero d s lt is = lookup_head (eq_by_cmp R k) e es ((Equal-is (R k e.0)).1 (o.antisymm k e.0 ∙ ap ordering_reverse is))
  found_at k (e ∷ es) (suc i) d s lt is =
      let below : R e.0 (get_or es i d).0 ≡ Less = key_at (λ x. R e.0 x ≡ Less) es i d s.0 (omega arith) in
      let less : R e.0 k ≡ Less = ap (R e.0) (sym (same (get_or es i d).0 k is)) ∙ below in
      lookup_tail (eq_by_cmp R k) e es (is_not o same k e.0 (λ t. absurd (clash (sym less ∙ t)))) ∙ found_at k es i d s.1 (omega arith) is
    where
      clash : Less ≡ Equal → ⊥
      clash e = cc

  none_is : (k : K) (es : List (K × X)) → ((j : ℕ) (d : K × X) → j < length es → R (get_or es j d).0 k ≡ Equal → ⊥) → lookup (eq_by_cmp R k) es ≡ None
  none_is k [] h = refl
  none_is k (e ∷ es) h = lookup_tail (eq_by_cmp R k) e es (is_not o same k e.0 (λ t. h 0 e (omega arith) t)) ∙ none_is k es (λ j d lt t. h (suc j) d (omega arith) t)

  pub not_found : (k : K) (es : List (K × X)) (i : ℕ) → IsStrictlySortedBy R (keys_of es) → (IsNonDecreasingBy (λ (e : K × X). ordering_index (R e.0 k)) es → IsPartitionPoint (λ (e : K × X). R e.0 k ≡ Less) (λ (e : K × X). R e.0 k ≡ Greater) es i)
      → lookup (eq_by_cmp R k) es ≡ None
  not_found k es i s parted =
      let p = parted (in_order k es s) in
      none_is k es (λ j d lt t. elim (cases_lt j i) [ inl below ↦ less (sym (p.0 j d (omega arith) below) ∙ t) | inr above ↦ greater (sym (p.1 j d above lt) ∙ t) ])
    where
      less : Less ≡ Equal → ⊥
      less e = cc

      greater : Greater ≡ Equal → ⊥
      greater e = cc
