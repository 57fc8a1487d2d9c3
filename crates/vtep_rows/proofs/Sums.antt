-- Sums over all rows, under one row more, changed or less.
use Rattle.std.proofs.Common.{◌≡◌, ℕ, ◌+◌, not, cond, T, List, [], ◌∷◌, Some, None, refl, sym, ap, ◌∙◌, arith}
use Rattle.std.proofs.lemmas.List.Sums.{sum_by-cons}
use Rattle.std.specs.List.{sum_by}
use Rattle.std.specs.Ordering.{eq_by_cmp, is_eq, is_lt}
use Rattle.std.specs.declared.cmp.Ordering.TheVariants.{Less, Equal, Greater}
use Rattle.std.specs.FinMap.{find, put, is_sorted}
use Rattle.std.specs.FinMap.Entries.{by_order, below_all, where_key}
use Rattle.vtep_base.specs.Maps as maps
use Rattle.vtep_base.specs.Maps.{Map}
use Rattle.vtep_rows.specs.Row.{Contents}
use Rattle.vtep_rows.specs.Rows.{Key, key_cmp}
use Rattle.vtep_rows.specs.Orders.{key_total, key_exact}
use Rattle.vtep_rows.specs.Indexes.{total, part}
use Rattle.vtep_rows.proofs.Entries.{t_first, t_second, less, none_below}

-- a key before one that is before all others is none of them
none_above : (k x : Key) (es : List (Key × Contents)) → key_cmp k x ≡ Less → T (below_all key_cmp x es) → find key_cmp k es ≡ None
none_above k x [] before h = refl
none_above k x (e ∷ es) before h =
    ap (λ r. cond (is_eq r) (Some e.1) (find key_cmp k es)) (key_total.trans k x e.0 before (less (key_cmp x e.0) (t_first (is_lt (key_cmp x e.0)) (below_all key_cmp x es) h)))
    ∙ none_above k x es before (t_second (is_lt (key_cmp x e.0)) (below_all key_cmp x es) h)

sum_put : (f : Key × Contents → ℕ) (k : Key) (v : Contents) (es : List (Key × Contents)) → T (is_sorted key_cmp es)
    → sum_by f (put key_cmp k v es) + part f k (find key_cmp k es) ≡ sum_by f es + f (k, v)
sum_put f k v [] h = omega arith
sum_put f k v (e ∷ es) h =
    let low : T (below_all key_cmp e.0 es) = t_first (below_all key_cmp e.0 es) (is_sorted key_cmp es) h in
    let rest : sum_by f (put key_cmp k v es) + part f k (find key_cmp k es) ≡ sum_by f es + f (k, v) = sum_put f k v es (t_second (below_all key_cmp e.0 es) (is_sorted key_cmp es) h) in
    elim (key_cmp k e.0) as (λ r. key_cmp k e.0 ≡ r → sum_by f (by_order r ((k, v) ∷ e ∷ es) ((e.0, v) ∷ es) (e ∷ put key_cmp k v es)) + part f k (cond (is_eq r) (Some e.1) (find key_cmp k es)) ≡ sum_by f (e ∷ es) + f (k, v)) [
      | Less ↦ λ is.
          ap (λ o. sum_by f ((k, v) ∷ e ∷ es) + part f k o) (none_above k e.0 es is low) ∙ front (sum_by f ((k, v) ∷ e ∷ es)) (f (k, v)) (sum_by f (e ∷ es)) (sum_by-cons f (k, v) (e ∷ es))
      | Equal ↦ λ tie.
          let same : k ≡ e.0 = key_exact k e.0 tie in
          (λ i. sum_by f ((sym same i, v) ∷ es) + f (same i, e.1)) ∙ changed (sum_by f ((k, v) ∷ es)) (f (k, v)) (sum_by f es) (sum_by f (e ∷ es)) (f e) (sum_by-cons f (k, v) es) (sum_by-cons f e es)
      | Greater ↦ λ _.
          later (sum_by f (e ∷ put key_cmp k v es)) (f e) (sum_by f (put key_cmp k v es)) (part f k (find key_cmp k es)) (sum_by f (e ∷ es)) (sum_by f es) (f (k, v)) (sum_by-cons f e (put key_cmp k v es)) (sum_by-cons f e es) rest
    ] refl
  where
    front : (s a b : ℕ) → s ≡ a + b → s + 0 ≡ b + a
    front s a b e = omega arith

    changed : (s a b t c : ℕ) → s ≡ a + b → t ≡ c + b → s + c ≡ t + a
    changed s a b t c e g = omega arith

    later : (s a p q t u b : ℕ) → s ≡ a + p → t ≡ a + u → p + q ≡ u + b → s + q ≡ t + b
    later s a p q t u b e g h = omega arith

sum_gone : (f : Key × Contents → ℕ) (k : Key) (es : List (Key × Contents)) → T (is_sorted key_cmp es)
    → sum_by f (where_key key_cmp (λ x. not (eq_by_cmp key_cmp k x)) es) + part f k (find key_cmp k es) ≡ sum_by f es
sum_gone f k [] h = refl
sum_gone f k (e ∷ es) h =
    let left = where_key key_cmp (λ x. not (eq_by_cmp key_cmp k x)) es in
    let low : T (below_all key_cmp e.0 es) = t_first (below_all key_cmp e.0 es) (is_sorted key_cmp es) h in
    let rest : sum_by f left + part f k (find key_cmp k es) ≡ sum_by f es = sum_gone f k es (t_second (below_all key_cmp e.0 es) (is_sorted key_cmp es) h) in
    let other : sum_by f (e ∷ left) + part f k (find key_cmp k es) ≡ sum_by f (e ∷ es) = later (sum_by f (e ∷ left)) (f e) (sum_by f left) (part f k (find key_cmp k es)) (sum_by f (e ∷ es)) (sum_by f es) (sum_by-cons f e left) (sum_by-cons f e es) rest in
    elim (key_cmp k e.0) as (λ r. key_cmp k e.0 ≡ r → sum_by f (cond (not (is_eq r)) (e ∷ left) left) + part f k (cond (is_eq r) (Some e.1) (find key_cmp k es)) ≡ sum_by f (e ∷ es)) [
      | Less ↦ λ _. other
      | Equal ↦ λ tie.
          let same : k ≡ e.0 = key_exact k e.0 tie in
          ap (λ x. sum_by f left + f (x, e.1)) same
          ∙ here (sum_by f left) (f e) (sum_by f es) (sum_by f (e ∷ es)) (part f k (find key_cmp k es)) rest (ap (part f k) (none_below key_total k e.0 es tie low)) (sum_by-cons f e es)
      | Greater ↦ λ _. other
    ] refl
  where
    later : (s a p q t u : ℕ) → s ≡ a + p → t ≡ a + u → p + q ≡ u → s + q ≡ t
    later s a p q t u e g h = omega arith

    here : (w a u t q : ℕ) → w + q ≡ u → q ≡ 0 → t ≡ a + u → w + a ≡ t
    here w a u t q e g h = omega arith

pub total-put : (f : Key × Contents → ℕ) (m : Map key_cmp Contents) (k : Key) (v : Contents) → total f (maps.insert m k v) + part f k (maps.get m k) ≡ total f m + f (k, v)
total-put f m k v = ap (λ es. sum_by f es + part f k (maps.get m k)) (maps.list-insert key_total m k v) ∙ sum_put f k v m.list m.sorted

pub total-gone : (f : Key × Contents → ℕ) (m : Map key_cmp Contents) (k : Key) → total f (maps.remove m k) + part f k (maps.get m k) ≡ total f m
total-gone f m k = sum_gone f k m.list m.sorted
