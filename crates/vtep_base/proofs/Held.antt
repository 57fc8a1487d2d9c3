-- What a `BTreeMap` holds, as a finite map of its entries.
use Rattle.std.proofs.Common.{◌≡◌, Bool, true, false, not, cond, ◌&&◌, List, [], ◌∷◌, Option, Some, None, refl, sym, ap, ◌∙◌}
use Rattle.std.specs.Map.{lookup, keys_of, remove_entry}
use Rattle.std.specs.BTreeMap.{is_at, insert_entry}
use Rattle.std.specs.BTreeMap.Range.{entries_between}
use Rattle.std.specs.List.{AllByRecursion, filter}
use Rattle.std.specs.List.Sorted.{IsStrictlySortedBy}
use Rattle.std.specs.Ordering.{eq_by_cmp, is_eq, is_le, match_ordering}
use Rattle.std.specs.Cmp.{IsTotalOrder, eq_by_cmp_equiv}
use Rattle.std.specs.declared.cmp.Ordering.{Ordering}
use Rattle.std.specs.declared.cmp.Ordering.TheVariants.{Less, Equal, Greater}
use Rattle.std.specs.declared.ops.Bound.TheVariants.{Included, Unbounded}
use Rattle.std.specs.FinMap.{find, put, IsAntisymmetric}
use Rattle.std.specs.FinMap.Entries.{by_order, where_key}
use Rattle.vtep_base.specs.Maps as maps
use Rattle.vtep_base.specs.Maps.{Map}

module _ {K X : Type 0} (R : K → K → Ordering) where
  abbrev pub held : List (K × X) → K → Option X
  held es q = lookup (is_at (R q)) es

  pub find-held : (es : List (K × X)) (q : K) → find R q es ≡ held es q
  find-held [] q = refl
  find-held (e ∷ es) q = ap (cond (is_at (R q) e.0) (Some e.1)) (find-held es q)

  -- a key below all others goes to the front
  put_front : (k : K) (v : X) (es : List (K × X)) → AllByRecursion (λ y. R k y ≡ Less) (keys_of es) → put R k v es ≡ (k, v) ∷ es
  put_front k v [] h = refl
  put_front k v (e ∷ es) h = rw h.0 refl

module _ {K X : Type 0} {R : K → K → Ordering} (o : IsTotalOrder R) where
  -- the entries of an ordered map are those of the finite map
  pub list-of_list : (es : List (K × X)) → IsStrictlySortedBy R (keys_of es) → (maps.of_list {R = R} es).list ≡ es
  unfolding IsStrictlySortedBy
  list-of_list [] h = refl
  list-of_list (e ∷ es) h =
      maps.list-insert o (maps.of_list es) e.0 e.1 ∙ ap (put R e.0 e.1) (list-of_list es h.1) ∙ put_front R e.0 e.1 es h.0

  pub get-held : (es : List (K × X)) (q : K) → maps.get (maps.of_list {R = R} es) q ≡ held R es q
  get-held es q = maps.get-of_list o es q ∙ find-held R es q

module _ {K X : Type 0} {R : K → K → Ordering} (o : IsTotalOrder R) (same : IsAntisymmetric R) where
  -- entries that differ at one key make maps that differ there
  pub one_given : (es fs : List (K × X)) (k : K) (v : X) → ((q : K) → held R fs q ≡ cond (is_at (R k) q) (Some v) (held R es q)) → maps.of_list {R = R} fs ≡ maps.insert (maps.of_list es) k v
  one_given es fs k v h = maps.same_map o same _ _ (λ q.
      get-held o fs q ∙ h q ∙ ap (λ b. cond b (Some v) (held R es q)) ((eq_by_cmp_equiv o).symm k q)
      ∙ sym (maps.get-insert o (maps.of_list es) k v q ∙ ap (cond (eq_by_cmp R q k) (Some v)) (get-held o es q)))

  pub one_gone : (es fs : List (K × X)) (k : K) → ((q : K) → held R fs q ≡ cond (is_at (R k) q) None (held R es q)) → maps.of_list {R = R} fs ≡ maps.remove (maps.of_list es) k
  one_gone es fs k h = maps.same_map o same _ _ (λ q.
      get-held o fs q ∙ h q ∙ ap (λ b. cond b None (held R es q)) ((eq_by_cmp_equiv o).symm k q)
      ∙ sym (maps.get-remove o (maps.of_list es) k q ∙ ap (cond (eq_by_cmp R q k) None) (get-held o es q)))

and_true : (b : Bool) → (b && true) ≡ b
and_true true = refl
and_true false = refl

below_tied : {K : Type 0} {R : K → K → Ordering} → IsTotalOrder R → (k x : K) → R k x ≡ Equal → (ys : List K) → AllByRecursion (λ y. R x y ≡ Less) ys → AllByRecursion (λ y. R k y ≡ Less) ys
below_tied o k x t [] h = tt
below_tied o k x t (y ∷ ys) h = (o.congr k x y t ∙ h.0, below_tied o k x t ys h.1)

module _ {K X : Type 0} (R : K → K → Ordering) where
  insert_put : (k : K) (v : X) (es : List (K × X)) → insert_entry R es k v ≡ put R k v es
  insert_put k v [] = refl
  insert_put k v (e ∷ es) = elim (R k e.0) as (λ r. match_ordering r ((k, v) ∷ e ∷ es) ((e.0, v) ∷ es) (e ∷ insert_entry R es k v) ≡ by_order r ((k, v) ∷ e ∷ es) ((e.0, v) ∷ es) (e ∷ put R k v es)) [
    | Less ↦ refl
    | Equal ↦ refl
    | Greater ↦ ap (λ fs. e ∷ fs) (insert_put k v es)
  ]

  all_stay : (k : K) (es : List (K × X)) → AllByRecursion (λ y. R k y ≡ Less) (keys_of es) → where_key R (λ x. not (eq_by_cmp R k x)) es ≡ es
  all_stay k [] h = refl
  all_stay k (e ∷ es) h = ap (λ r. cond (not (is_eq r)) (e ∷ where_key R (λ x. not (eq_by_cmp R k x)) es) (where_key R (λ x. not (eq_by_cmp R k x)) es)) h.0 ∙ ap (λ fs. e ∷ fs) (all_stay k es h.1)

  all_between : (es : List (K × X)) → entries_between R Unbounded Unbounded es ≡ es
  all_between [] = refl
  all_between (e ∷ es) = ap (λ fs. e ∷ fs) (all_between es)

  from_between : (k : K) (es : List (K × X)) → entries_between R (Included k) Unbounded es ≡ filter (λ e. is_le (R k e.0)) es
  from_between k es i = filter (λ e. and_true (is_le (R k e.0)) i) es

module _ {K X : Type 0} {R : K → K → Ordering} (o : IsTotalOrder R) where
  remove_where : (k : K) (es : List (K × X)) → IsStrictlySortedBy R (keys_of es) → remove_entry (is_at (R k)) es ≡ where_key R (λ x. not (eq_by_cmp R k x)) es
  unfolding IsStrictlySortedBy
  remove_where k [] h = refl
  remove_where k (e ∷ es) h =
      let left = where_key R (λ x. not (eq_by_cmp R k x)) es in
      elim (R k e.0) as (λ r. R k e.0 ≡ r → cond (is_eq r) es (e ∷ remove_entry (is_at (R k)) es) ≡ cond (not (is_eq r)) (e ∷ left) left) [
        | Less ↦ λ t. ap (λ fs. e ∷ fs) (remove_where k es h.1)
        | Equal ↦ λ t. sym (all_stay R k es (below_tied o k e.0 t (keys_of es) h.0))
        | Greater ↦ λ t. ap (λ fs. e ∷ fs) (remove_where k es h.1)
      ] refl

  -- the entries after an insertion and after a removal are those of the finite map, for any order
  pub inserted : (es fs : List (K × X)) (k : K) (v : X) → IsStrictlySortedBy R (keys_of es) → IsStrictlySortedBy R (keys_of fs) → fs ≡ insert_entry R es k v → maps.of_list {R = R} fs ≡ maps.insert (maps.of_list es) k v
  inserted es fs k v s t e = maps.same_list _ _ (list-of_list o fs t ∙ e ∙ insert_put R k v es ∙ ap (put R k v) (sym (list-of_list o es s)) ∙ sym (maps.list-insert o (maps.of_list es) k v))

  pub removed : (es fs : List (K × X)) (k : K) → IsStrictlySortedBy R (keys_of es) → IsStrictlySortedBy R (keys_of fs) → fs ≡ remove_entry (is_at (R k)) es → maps.of_list {R = R} fs ≡ maps.remove (maps.of_list es) k
  removed es fs k s t e = maps.same_list _ _ (list-of_list o fs t ∙ e ∙ remove_where k es s ∙ ap (where_key R (λ x. not (eq_by_cmp R k x))) (sym (list-of_list o es s)))

  -- the entries of a range with no end, as those of the finite map
  pub from_first : (es : List (K × X)) → IsStrictlySortedBy R (keys_of es) → entries_between R Unbounded Unbounded es ≡ maps.not_below R None (maps.map_by R es)
  from_first es s = all_between R es ∙ sym (list-of_list o es s)

  pub from_key : (k : K) (es : List (K × X)) → IsStrictlySortedBy R (keys_of es) → entries_between R (Included k) Unbounded es ≡ maps.not_below R (Some k) (maps.map_by R es)
  from_key k es s = from_between R k es ∙ ap (filter (λ e. is_le (R k e.0))) (sym (list-of_list o es s))

  -- the entries that a value is seen as, as those of the finite map
  pub shown : (es seen : List (K × X)) → IsStrictlySortedBy R (keys_of es) → es ≡ seen → es ≡ (maps.map_by R seen).list
  shown es seen s e = sym (list-of_list o es s) ∙ ap (λ fs. (maps.map_by R fs).list) e
