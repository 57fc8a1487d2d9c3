-- The entries of one place are a range.
use Rattle.std.proofs.Common.{◌≡◌, ℕ, ◌-◌, ◌^◌, ◌<◌, true, false, not, ◌&&◌, nat_lt, List, refl, sym, ap, ◌∙◌, arith}
use Rattle.std.proofs.lemmas.Bool.Decides.{nat_tests}
use Rattle.std.specs.List.{list_all, filter}
use Rattle.std.specs.Cmp.{IsTotalOrder, ranked}
use Rattle.std.specs.Ordering.{is_eq, is_le, is_lt, nat_cmp, ordering_then, ordering_reverse}
use Rattle.std.specs.BTreeMap.Range.{range_contains}
use Rattle.std.specs.declared.ops.Bound.TheVariants.{Included}
use Rattle.std.specs.declared.cmp.Ordering.{Ordering}
use Rattle.std.specs.declared.cmp.Ordering.TheVariants.{Less, Equal, Greater}
use Rattle.vtep_base.specs.Maps as maps
use Rattle.vtep_base.specs.Maps.{Map}
use Rattle.vtep_rows.proofs.Entries.{both, all_filter, all_put, filter_alike}
use Rattle.vtep_rows.specs.Marks.{Mark, mark_cmp, Place, place_of, is_at_place, IsNumbered}
use Rattle.vtep_rows.specs.MarkOrders.{place_total, mark_total, mark_exact}

lt_so : (a b : ℕ) → a < b → nat_lt a b ≡ true
lt_so a b h = grind (arith, nat_tests, h)

so_lt : (a b : ℕ) → nat_lt a b ≡ true → a < b
so_lt a b h = grind (arith, nat_tests, h)

pub numbered_put : (m : Map mark_cmp ℕ) (k : Mark) (n : ℕ) → k.4 < 2 ^ 128 → IsNumbered m → IsNumbered (maps.insert m k n)
numbered_put m k n fits h =
    ap (list_all (λ e. nat_lt e.0.4 (2 ^ 128))) (maps.list-insert mark_total m k n)
    ∙ all_put mark_exact (λ e. nat_lt e.0.4 (2 ^ 128)) k n m.list (lt_so k.4 (2 ^ 128) fits) h

pub numbered_remove : (m : Map mark_cmp ℕ) (k : Mark) → IsNumbered m → IsNumbered (maps.remove m k)
numbered_remove m k h = all_filter (λ e. nat_lt e.0.4 (2 ^ 128)) (λ e. not (is_eq (mark_cmp k e.0))) m.list h

-- between the least and the greatest last part stand exactly those that tie in what is before
of_front : {A : Type 0} {P : A → A → Ordering} → IsTotalOrder P → (a b : A) (i : ℕ) → i < 2 ^ 128
    → (is_le (ordering_then (P a b) (nat_cmp 0 i)) && not (is_lt (ordering_then (P a b) (nat_cmp (2 ^ 128 - 1) i)))) ≡ is_eq (P b a)
of_front {A} {P} o a b i fits =
    elim (P a b) as (λ r. P a b ≡ r → (is_le (ordering_then r (nat_cmp 0 i)) && not (is_lt (ordering_then r (nat_cmp (2 ^ 128 - 1) i)))) ≡ is_eq (P b a)) [
      | Less ↦ λ e. sym (ap is_eq (o.antisymm b a ∙ ap ordering_reverse e))
      | Equal ↦ λ e. both _ _ (low (nat_cmp 0 i) refl) (ap not (high (nat_cmp (2 ^ 128 - 1) i) refl)) ∙ sym (ap is_eq (o.antisymm b a ∙ ap ordering_reverse e))
      | Greater ↦ λ e. sym (ap is_eq (o.antisymm b a ∙ ap ordering_reverse e))
    ] refl
  where
    low : (r : Ordering) → r ≡ nat_cmp 0 i → is_le r ≡ true
    low Less e = refl
    low Equal e = refl
    low Greater e = let below : i < 0 = ranked 0 i Greater e in absurd (omega (arith, below))

    high : (r : Ordering) → r ≡ nat_cmp (2 ^ 128 - 1) i → is_lt r ≡ false
    high Less e = let above : 2 ^ 128 - 1 < i = ranked (2 ^ 128 - 1) i Less e in absurd (omega (arith, above, fits))
    high Equal e = refl
    high Greater e = refl

pub of_one_place : (es : List (Mark × ℕ)) (p : Place) → list_all (λ e. nat_lt e.0.4 (2 ^ 128)) es ≡ true
    → filter (λ e. range_contains mark_cmp (Included (p.0, p.1, p.2, p.3, 0)) (Included (p.0, p.1, p.2, p.3, 2 ^ 128 - 1)) e.0) es ≡ filter (λ e. is_at_place p e.0) es
of_one_place es p h =
    filter_alike (λ e. nat_lt e.0.4 (2 ^ 128)) _ _ (λ e small. of_front place_total p (place_of e.0) e.0.4 (so_lt e.0.4 (2 ^ 128) small)) es h
