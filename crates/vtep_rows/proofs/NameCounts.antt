-- Counts of names under one key more or less.
use Rattle.std.proofs.Common.{◌≡◌, ℕ, ◌+◌, ◌-◌, ◌<◌, ◌&&◌, ◌++◌, Bool, true, false, cond, List, [], ◌∷◌, take, length, get_or, refl, sym, ap, ◌∙◌, arith}
use Rattle.std.proofs.lemmas.List.Sums.{sum_by_more, sum_by-cons}
use Rattle.std.specs.List.{count_by}
use Rattle.std.specs.Ordering.{eq_by_cmp}
use Rattle.std.specs.Cmp.{tied_then, eq_by_cmp_equiv}
use Rattle.vtep_base.specs.Maps.{Map}
use Rattle.vtep_schema.specs.declared.Table.{Table}
use Rattle.vtep_schema.specs.Tables.{same_table, table_cmp}
use Rattle.vtep_schema.specs.Orders.{table_total}
use Rattle.vtep_rows.specs.Rows.{Key, key_cmp, same_key}
use Rattle.vtep_rows.specs.Tallies.{count_at, raised, lowered}
use Rattle.vtep_rows.specs.Names.{naming_cmp, named_by, lowered_all}
use Rattle.vtep_rows.specs.NameOrders.{naming_total, naming_exact}
use Rattle.vtep_rows.proofs.TallyLaws.{count-raised, count-lowered}

one_up : (a b : Bool) (n s c : ℕ) → n ≡ s + cond b c 0 → cond (a && b) (n + 1) n ≡ s + cond b (c + cond a 1 0) 0
one_up true true n s c e = omega (arith, e)
one_up true false n s c e = omega (arith, e)
one_up false true n s c e = omega (arith, e)
one_up false false n s c e = omega (arith, e)

one_down : (a b : Bool) (n s c : ℕ) → n ≡ s - cond b c 0 → cond (a && b) (n - 1) n ≡ s - cond b (c + cond a 1 0) 0
one_down true true n s c e = omega (arith, e)
one_down true false n s c e = omega (arith, e)
one_down false true n s c e = omega (arith, e)
one_down false false n s c e = omega (arith, e)

then_down : (a b : Bool) (n c : ℕ) → cond (a && b) (n - 1) n - cond b c 0 ≡ n - cond b (cond a 1 0 + c) 0
then_down true true n c = omega arith
then_down true false n c = omega arith
then_down false true n c = omega arith
then_down false false n c = omega arith

tied : (k key : Key) (t of : Table) → eq_by_cmp naming_cmp (k.0, k.1, t) (key.0, key.1, of) ≡ (same_key k key && same_table of t)
tied k key t of = sym (tied_then (key_cmp k key) (table_cmp t of)) ∙ ap (λ b. same_key k key && b) ((eq_by_cmp_equiv table_total).symm t of)

more : (of t : Table) (k : Key) (keys : List Key) (i : ℕ) (key d : Key) → i < length keys → get_or keys i d ≡ key → named_by of t k (take (i + 1) keys) ≡ cond (same_table of t) (count_by (same_key k) (take i keys) + cond (same_key k key) 1 0) 0
more of t k keys i key d h is =
    ap (λ n. cond (same_table of t) n 0) (sum_by_more (λ x. cond (same_key k x) 1 0) keys i d h ∙ ap (λ x. count_by (same_key k) (take i keys) + cond (same_key k x) 1 0) is)

pub raised_more : (m s : Map naming_cmp ℕ) (of t : Table) (k : Key) (keys : List Key) (i : ℕ) (key d : Key) → i < length keys → get_or keys i d ≡ key
    → count_at m (k.0, k.1, t) ≡ count_at s (k.0, k.1, t) + named_by of t k (take i keys)
    → count_at (raised m (key.0, key.1, of)) (k.0, k.1, t) ≡ count_at s (k.0, k.1, t) + named_by of t k (take (i + 1) keys)
raised_more m s of t k keys i key d h is e =
    count-raised naming_total naming_exact m (key.0, key.1, of) (k.0, k.1, t)
    ∙ ap (λ b. cond b (count_at m (k.0, k.1, t) + 1) (count_at m (k.0, k.1, t))) (tied k key t of)
    ∙ one_up (same_key k key) (same_table of t) (count_at m (k.0, k.1, t)) (count_at s (k.0, k.1, t)) (count_by (same_key k) (take i keys)) e
    ∙ ap (λ n. count_at s (k.0, k.1, t) + n) (sym (more of t k keys i key d h is))

pub lowered_more : (m s : Map naming_cmp ℕ) (of t : Table) (k : Key) (keys : List Key) (i : ℕ) (key d : Key) → i < length keys → get_or keys i d ≡ key
    → count_at m (k.0, k.1, t) ≡ count_at s (k.0, k.1, t) - named_by of t k (take i keys)
    → count_at (lowered m (key.0, key.1, of)) (k.0, k.1, t) ≡ count_at s (k.0, k.1, t) - named_by of t k (take (i + 1) keys)
lowered_more m s of t k keys i key d h is e =
    count-lowered naming_total naming_exact m (key.0, key.1, of) (k.0, k.1, t)
    ∙ ap (λ b. cond b (count_at m (k.0, k.1, t) - 1) (count_at m (k.0, k.1, t))) (tied k key t of)
    ∙ one_down (same_key k key) (same_table of t) (count_at m (k.0, k.1, t)) (count_at s (k.0, k.1, t)) (count_by (same_key k) (take i keys)) e
    ∙ ap (λ n. count_at s (k.0, k.1, t) - n) (sym (more of t k keys i key d h is))

-- ---- keys one by one

pub lowered_each : (m : Map naming_cmp ℕ) (of t : Table) (k : Key) (keys : List Key) → count_at (lowered_all m of keys) (k.0, k.1, t) ≡ count_at m (k.0, k.1, t) - named_by of t k keys
lowered_each m of t k [] = none (same_table of t) (count_at m (k.0, k.1, t))
  where
    none : (b : Bool) (n : ℕ) → n ≡ n - cond b 0 0
    none true n = omega arith
    none false n = omega arith
lowered_each m of t k (x ∷ xs) =
    lowered_each (lowered m (x.0, x.1, of)) of t k xs
    ∙ ap (λ n. n - named_by of t k xs) (count-lowered naming_total naming_exact m (x.0, x.1, of) (k.0, k.1, t) ∙ ap (λ b. cond b (count_at m (k.0, k.1, t) - 1) (count_at m (k.0, k.1, t))) (tied k x t of))
    ∙ then_down (same_key k x) (same_table of t) (count_at m (k.0, k.1, t)) (count_by (same_key k) xs)
    ∙ ap (λ n. count_at m (k.0, k.1, t) - cond (same_table of t) n 0) (sym (sum_by-cons (λ y. cond (same_key k y) 1 0) x xs))

pub lowered_both : (m : Map naming_cmp ℕ) (of : Table) (xs ys : List Key) → lowered_all m of (xs ++ ys) ≡ lowered_all (lowered_all m of xs) of ys
lowered_both m of [] ys = refl
lowered_both m of (x ∷ xs) ys = lowered_both (lowered m (x.0, x.1, of)) of xs ys
