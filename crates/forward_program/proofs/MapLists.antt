-- Finite maps and the lists of their entries.
use Rattle.std.proofs.Common.{◌≡◌, ◌⊎◌, inl, inr, Bool, true, false, cond, T, List, [], ◌∷◌, map, is_some, Some, None, refl, sym, ap, ◌∙◌, subst, true≢false}
use Rattle.std.specs.Ordering.{eq_by_cmp}
use Rattle.std.specs.Cmp.{IsTotalOrder, Equal-is, eq_by_cmp_equiv}
use Rattle.std.specs.declared.cmp.Ordering.{Ordering}
use Rattle.std.specs.FinMap.{find, is_sorted, IsAntisymmetric}
use Rattle.std.specs.FinMap.Entries.{below_all}
use Rattle.vtep_base.specs.Maps as maps
use Rattle.vtep_base.specs.Maps.{Map}
use Rattle.vtep_rows.specs.Row.{put_all}
use Rattle.vtep_rows.proofs.Entries.{same_some, t_first, t_second, none_below, has-insert}
use Rattle.forward_program.specs.Built.{IsIn}

itself : {K : Type 0} {R : K → K → Ordering} → IsTotalOrder R → (k : K) → eq_by_cmp R k k ≡ true
itself o k = (eq_by_cmp_equiv o).refl k

module _ {K X : Type 0} {R : K → K → Ordering} (o : IsTotalOrder R) where
  pub in_found : (k : K) (x : X) (es : List (K × X)) → T (is_sorted R es) → IsIn (k, x) es → find R k es ≡ Some x
  in_found k x [] sorted h = absurd h
  in_found k x (e ∷ es) sorted (inl is) =
      subst (λ (d : K × X). cond (eq_by_cmp R k d.0) (Some d.1) (find R k es) ≡ Some x) is (ap (λ b. cond b (Some x) (find R k es)) (itself o k))
  in_found k x (e ∷ es) sorted (inr h) = by (eq_by_cmp R k e.0) refl (in_found k x es (t_second (below_all R e.0 es) (is_sorted R es) sorted) h)
    where
      by : (b : Bool) → eq_by_cmp R k e.0 ≡ b → find R k es ≡ Some x → cond b (Some e.1) (find R k es) ≡ Some x
      by true tie found =
          let none : find R k es ≡ None = none_below o k e.0 es ((Equal-is (R k e.0)).0 tie) (t_first (below_all R e.0 es) (is_sorted R es) sorted) in
          let clash : Some x ≡ None = sym found ∙ none in
          cc
      by false tie found = found

  -- an entry of a map is what is found
  pub in_get : (m : Map R X) (k : K) (x : X) → IsIn (k, x) m.list → maps.get m k ≡ Some x
  in_get m k x h = in_found k x m.list m.sorted h

  kept : (es : List (K × X)) (m : Map R X) (k : K) → maps.has m k ≡ true → maps.has (put_all m es) k ≡ true
  kept [] m k h = h
  kept (e ∷ es) m k h = kept es (maps.insert m e.0 e.1) k (has-insert o m e.0 e.1 k h)

  put_there : (m : Map R X) (k : K) (x : X) → maps.has (maps.insert m k x) k ≡ true
  put_there m k x = ap is_some (maps.get-insert o m k x k ∙ ap (λ b. cond b (Some x) (maps.get m k)) (itself o k))

  -- what is put is there
  pub in_has : (es : List (K × X)) (m : Map R X) (k : K) (x : X) → IsIn (k, x) es → maps.has (put_all m es) k ≡ true
  in_has [] m k x h = absurd h
  in_has (e ∷ es) m k x (inl is) = kept es (maps.insert m e.0 e.1) k (subst (λ (d : K × X). maps.has (maps.insert m d.0 d.1) k ≡ true) is (put_there m k x))
  in_has (e ∷ es) m k x (inr h) = in_has es (maps.insert m e.0 e.1) k x h

module _ {K X : Type 0} {R : K → K → Ordering} (same : IsAntisymmetric R) where
  pub found_in : (k : K) (x : X) (es : List (K × X)) → find R k es ≡ Some x → IsIn (k, x) es
  found_in k x [] is = cc
  found_in k x (e ∷ es) is = by (eq_by_cmp R k e.0) refl (found_in k x es) is
    where
      by : (b : Bool) → eq_by_cmp R k e.0 ≡ b → (find R k es ≡ Some x → IsIn (k, x) es) → cond b (Some e.1) (find R k es) ≡ Some x → IsIn (k, x) (e ∷ es)
      by true tie rest found = inl (λ i. (same k e.0 ((Equal-is (R k e.0)).0 tie) i, sym (same_some e.1 x found) i))
      by false tie rest found = inr (rest found)

  -- what is found is an entry
  pub get_in : (m : Map R X) (k : K) (x : X) → maps.get m k ≡ Some x → IsIn (k, x) m.list
  get_in m k x is = found_in k x m.list is

module _ {K : Type 0} {R : K → K → Ordering} (o : IsTotalOrder R) (same : IsAntisymmetric R) where
  pub apart : (k x : K) → (k ≡ x → ⊥) → eq_by_cmp R k x ≡ false
  apart k x h = by (eq_by_cmp R k x) refl
    where
      by : (b : Bool) → eq_by_cmp R k x ≡ b → b ≡ false
      by true tie = absurd (h (same k x ((Equal-is (R k x)).0 tie)))
      by false tie = refl

  pub in_or_not : (k : K) (ks : List K) → IsIn k ks ⊎ (IsIn k ks → ⊥)
  in_or_not k [] = inr (λ h. h)
  in_or_not k (x ∷ ks) = by (eq_by_cmp R k x) refl (in_or_not k ks)
    where
      by : (b : Bool) → eq_by_cmp R k x ≡ b → IsIn k ks ⊎ (IsIn k ks → ⊥) → IsIn k (x ∷ ks) ⊎ (IsIn k (x ∷ ks) → ⊥)
      by true tie rest = inl (inl (same k x ((Equal-is (R k x)).0 tie)))
      by false tie (inl h) = inl (inr h)
      by false tie (inr h) = inr (λ g. elim g [
        | inl e ↦ (let clash : false ≡ true = sym tie ∙ ap (eq_by_cmp R k) (sym e) ∙ itself o k in absurd (true≢false (sym clash)))
        | inr later ↦ h later
      ])

module _ {K X : Type 0} {R : K → K → Ordering} (o : IsTotalOrder R) (same : IsAntisymmetric R) where
  from_put : (m : Map R X) (k : K) (v : X) (q : K) (x : X) → maps.get (maps.insert m k v) q ≡ Some x → (◌≡◌ {A = K × X} (q, x) (k, v)) ⊎ (maps.get m q ≡ Some x)
  from_put m k v q x is = by (eq_by_cmp R q k) refl (sym (maps.get-insert o m k v q) ∙ is)
    where
      by : (b : Bool) → eq_by_cmp R q k ≡ b → cond b (Some v) (maps.get m q) ≡ Some x → (◌≡◌ {A = K × X} (q, x) (k, v)) ⊎ (maps.get m q ≡ Some x)
      by true tie found = inl (λ i. (same q k ((Equal-is (R q k)).0 tie) i, sym (same_some v x found) i))
      by false tie found = inr found

  from_all : (es : List (K × X)) (m : Map R X) (q : K) (x : X) → maps.get (put_all m es) q ≡ Some x → IsIn (q, x) es ⊎ (maps.get m q ≡ Some x)
  from_all [] m q x is = inr is
  from_all (e ∷ es) m q x is = elim (from_all es (maps.insert m e.0 e.1) q x is) [
    | inl h ↦ inl (inr h)
    | inr h ↦ elim (from_put m e.0 e.1 q x h) [ inl here ↦ inl (inl here) | inr before ↦ inr before ]
  ]

  -- what is found was put
  pub from_entries : (es : List (K × X)) (q : K) (x : X) → maps.get (put_all {R = R} maps.empty es) q ≡ Some x → IsIn (q, x) es
  from_entries es q x is = elim (from_all es maps.empty q x is) [ inl h ↦ h | inr h ↦ cc ]

  -- ---- what is put, and what is not

  abbrev keys : List (K × X) → List K
  keys es = map (λ (e : K × X). e.0) es

  pub put_out : (es : List (K × X)) (m : Map R X) (k : K) → (IsIn k (keys es) → ⊥) → maps.get (put_all m es) k ≡ maps.get m k
  put_out [] m k h = refl
  put_out (e ∷ es) m k h =
      put_out es (maps.insert m e.0 e.1) k (λ g. h (inr g)) ∙ maps.get-insert o m e.0 e.1 k ∙ ap (λ b. cond b (Some e.1) (maps.get m k)) (apart o same k e.0 (λ g. h (inl g)))

  pub put_in : (es : List (K × X)) (m : Map R X) (k : K) → IsIn k (keys es) → (x : X) × IsIn (k, x) es × (maps.get (put_all m es) k ≡ Some x)
  put_in [] m k h = absurd h
  put_in (e ∷ es) m k h = by (in_or_not o same k (keys es)) (put_in es (maps.insert m e.0 e.1) k) h
    where
      by : IsIn k (keys es) ⊎ (IsIn k (keys es) → ⊥) → (IsIn k (keys es) → (x : X) × IsIn (k, x) es × (maps.get (put_all (maps.insert m e.0 e.1) es) k ≡ Some x)) → IsIn k (keys (e ∷ es))
          → (x : X) × IsIn (k, x) (e ∷ es) × (maps.get (put_all m (e ∷ es)) k ≡ Some x)
      by (inl there) rest g = let p = rest there in (p.0, inr p.1, p.2)
      by (inr never) rest (inr later) = absurd (never later)
      by (inr never) rest (inl is) = (
        e.1,
        inl (λ i. (is i, e.1)),
        put_out es (maps.insert m e.0 e.1) k never ∙ maps.get-insert o m e.0 e.1 k ∙ ap (λ b. cond b (Some e.1) (maps.get m k)) (ap (eq_by_cmp R k) (sym is) ∙ itself o k),
      )

  -- what is there already changes nothing
  pub put_again : (m : Map R X) (k : K) (x : X) → maps.get m k ≡ Some x → m ≡ maps.insert m k x
  put_again m k x is = maps.same_map o same m (maps.insert m k x) (λ q. sym (maps.get-insert o m k x q ∙ by q (eq_by_cmp R q k) refl))
    where
      by : (q : K) (b : Bool) → eq_by_cmp R q k ≡ b → cond b (Some x) (maps.get m q) ≡ maps.get m q
      by q true tie = sym (ap (maps.get m) (same q k ((Equal-is (R q k)).0 tie)) ∙ is)
      by q false tie = refl
