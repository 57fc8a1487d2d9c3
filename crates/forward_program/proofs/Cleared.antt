-- A map whose first entries are taken out until none is left.
use Rattle.std.proofs.Common.{◌≡◌, ◌<◌, ◌≤◌, Bool, true, false, not, cond, List, [], ◌∷◌, length, map, Option, Some, None, refl, sym, ap, ◌∙◌, subst, arith}
use Rattle.std.specs.Ordering.{eq_by_cmp}
use Rattle.std.specs.Cmp.{IsTotalOrder, eq_by_cmp_equiv}
use Rattle.std.specs.declared.cmp.Ordering.{Ordering}
use Rattle.std.specs.FinMap.Entries.{where_key}
use Rattle.vtep_base.specs.Maps as maps
use Rattle.vtep_base.specs.Maps.{Map}
use Rattle.vtep_rows.specs.Row.{first}
use Rattle.vtep_rows.proofs.Entries.{same_some}

module _ {K X : Type 0} (R : K → K → Ordering) where
  no_longer : (p : K → Bool) (es : List (K × X)) → length (where_key R p es) ≤ length es
  no_longer p [] = omega arith
  no_longer p (e ∷ es) =
      let rest : length (where_key R p es) ≤ length es = no_longer p es in
      elim (p e.0) as (λ b. length (cond b (e ∷ where_key R p es) (where_key R p es)) ≤ length (e ∷ es)) [ true ↦ omega arith | false ↦ omega arith ]

module _ {K X : Type 0} {R : K → K → Ordering} (o : IsTotalOrder R) where
  shorter : (k : K) (es : List (K × X)) → first (map (λ (e : K × X). e.0) es) ≡ Some k → length (where_key R (λ x. not (eq_by_cmp R k x)) es) < length es
  shorter k [] is = cc
  shorter k (e ∷ es) is =
      let itself : eq_by_cmp R k e.0 ≡ true = ap (eq_by_cmp R k) (same_some e.0 k is) ∙ (eq_by_cmp_equiv o).refl k in
      let rest : length (where_key R (λ x. not (eq_by_cmp R k x)) es) ≤ length es = no_longer R (λ x. not (eq_by_cmp R k x)) es in
      subst (λ b. length (cond (not b) (e ∷ where_key R (λ x. not (eq_by_cmp R k x)) es) (where_key R (λ x. not (eq_by_cmp R k x)) es)) < length (e ∷ es)) (sym itself) (omega arith)

  pub one_gone : (m n : Map R X) (p : Option K) (k : K) → p ≡ first (maps.keys m) → p ≡ Some k → n ≡ maps.remove m k → length n.list < length m.list
  one_gone m n p k is there e = subst (λ (q : Map R X). length q.list < length m.list) (sym e) (shorter k m.list (sym is ∙ there))

none_left : {K X : Type 0} (es : List (K × X)) → None ≡ first (map (λ (e : K × X). e.0) es) → es ≡ []
none_left [] is = refl
none_left (e ∷ es) is = cc

module _ {K X : Type 0} {R : K → K → Ordering} where
  pub all_gone : (m : Map R X) (p : Option K) → p ≡ first (maps.keys m) → p ≡ None → m ≡ maps.empty
  all_gone m p is there = maps.same_list m maps.empty (none_left m.list (sym there ∙ is))
