-- What a collection takes away is found from the places that were written.
use Rattle.std.proofs.Common.{IfOk, OnOk, Result, Ok, Err, ◌≡◌, ℕ, zero, suc, ◌+◌, ◌<◌, ◌≤◌, ◌==◌, Bool, true, false, cond, not, ◌&&◌, ◌||◌, nat_lt, nat_le, List, [], ◌∷◌, map, length, get_or, is_some, Option, Some, None, refl, sym, ap, subst, ◌∙◌, true≢false, arith}
use Rattle.std.proofs.lemmas.Bool.Decides.{nat_tests}
use Rattle.std.specs.List.{filter, list_all, list_any}
use Rattle.std.specs.Ordering.{eq_by_cmp, is_eq, nat_cmp}
use Rattle.std.specs.Cmp.{eq_by_cmp_equiv, first_so, second_so}
use Rattle.vtep_base.specs.Maps as maps
use Rattle.vtep_base.specs.Maps.{Map}
use Rattle.vtep_schema.specs.declared.Table.{Table}
use Rattle.vtep_schema.specs.declared.Table.TheVariants.{Global}
use Rattle.vtep_schema.specs.Orders.{table_total}
use Rattle.vtep_schema.specs.Tables.{table_rule, table_place, same_table, tables}
use Rattle.vtep_rows.specs.Row.{Contents, references}
use Rattle.vtep_rows.specs.Rows.{Key, key_cmp, same_key, Rows, IsRows, row_at, removed, names, has_key, is_named, stays, collected}
use Rattle.vtep_rows.specs.Orders.{key_total, key_exact}
use Rattle.vtep_rows.specs.Database.{Images, Versions, restored, image_names, may_go, goes, collected_at, let_go, later_than, IsCollecting, from_place, after_table, ids_at}
use Rattle.vtep_rows.proofs.Entries.{both, found}
use Rattle.vtep_rows.proofs.Kept.{same_table_exact, same_table_itself, le_so}
use Rattle.vtep_rows.proofs.SoundLaws.{none_any, any_none, not_on, not_off}
use Rattle.vtep_rows.proofs.Collected.{exact_in, any_filter_so, rows_down, only_one}
use Rattle.vtep_rows.proofs.Restored.{tied, itself}
use Rattle.vtep_rows.proofs.Touched.{untouched, touched, all_entries}

-- ---- tests

or_left : (a b : Bool) → a ≡ true → (a || b) ≡ true
or_left true b h = refl
or_left false b h = cc

or_right : (a b : Bool) → b ≡ true → (a || b) ≡ true
or_right true b h = refl
or_right false b h = h

or_cases : {P : Type 0} (a b : Bool) → (a ≡ true → P) → (b ≡ true → P) → (a || b) ≡ true → P
or_cases true b f g h = f refl
or_cases false b f g h = g h

neither_left : (a b : Bool) → (a || b) ≡ false → a ≡ false
neither_left false b h = refl
neither_left true b h = h

neither_right : (a b : Bool) → (a || b) ≡ false → b ≡ false
neither_right false b h = h
neither_right true b h = absurd (true≢false h)

-- a test that is not false is true
yes : (b : Bool) → (b ≡ false → ⊥) → b ≡ true
yes true h = refl
yes false h = absurd (h refl)

-- ---- what names a row

-- a row that is there names only what is named
named_so : (m : Map key_cmp Contents) (k : Key) (row : Contents) (q : Key) → maps.get m k ≡ Some row → is_named m q ≡ false → names row q ≡ false
named_so m k row q is none = not_on (names row q) (found key_exact (λ e. not (names e.1 q)) k row m.list (none_any (λ e. names e.1 q) m.list none) is)

none_names : (m : Map key_cmp Contents) (q : Key) → ((k : Key) (row : Contents) → maps.get m k ≡ Some row → names row q ≡ false) → is_named m q ≡ false
none_names m q h = any_none (λ e. names e.1 q) m.list (all_entries (λ e. not (names e.1 q)) m.list m.sorted (λ k row is. not_off (names row q) (h k row is)))

fewer_named : (m : Map key_cmp Contents) (k q : Key) → is_named (maps.remove m k) q ≡ true → is_named m q ≡ true
fewer_named m k q = any_filter_so (λ e. names e.1 q) (λ e. not (eq_by_cmp key_cmp k e.0)) m.list

still_not : (m : Map key_cmp Contents) (k q : Key) → stays m q ≡ false → stays (maps.remove m k) q ≡ false
still_not m k q h = by (stays (maps.remove m k) q) refl
  where
    by : (b : Bool) → stays (maps.remove m k) q ≡ b → b ≡ false
    by false e = refl
    by true e =
        or_cases (table_rule q.0).root (is_named (maps.remove m k) q) (λ root. sym root ∙ neither_left (table_rule q.0).root (is_named m q) h)
        (λ named. sym (fewer_named m k q named) ∙ neither_right (table_rule q.0).root (is_named m q) h) e

-- what only the row that went named
was_named : (m : Map key_cmp Contents) (k : Key) (row : Contents) (q : Key) → maps.get m k ≡ Some row → is_named m q ≡ true → is_named (maps.remove m k) q ≡ false → names row q ≡ true
was_named m k row q is named none = yes (names row q) (λ silent. true≢false (sym named ∙ none_names m q (λ x w there. each silent x w there (eq_by_cmp key_cmp x k) refl)))
  where
    each : names row q ≡ false → (x : Key) (w : Contents) → maps.get m x ≡ Some w → (b : Bool) → eq_by_cmp key_cmp x k ≡ b → names w q ≡ false
    each silent x w there true e =
        let same : Some w ≡ Some row = sym there ∙ ap (maps.get m) (tied x k e) ∙ is in
        ap (λ o. image_names o q) same ∙ silent
    each silent x w there false e = named_so (maps.remove m k) x w q (maps.get-remove key_total m k x ∙ ap (λ b. cond b None (maps.get m x)) e ∙ there) none

-- ---- one row goes

gone_at : (m : Map key_cmp Contents) (k : Key) → maps.has (maps.remove m k) k ≡ false
gone_at m k = ap is_some (maps.get-remove key_total m k k ∙ ap (λ b. cond b None (maps.get m k)) (itself k))

elsewhere : (m : Map key_cmp Contents) (k q : Key) → maps.has (maps.remove m k) q ≡ true → eq_by_cmp key_cmp q k ≡ false
elsewhere m k q h = by (eq_by_cmp key_cmp q k) refl
  where
    by : (b : Bool) → eq_by_cmp key_cmp q k ≡ b → b ≡ false
    by false e = refl
    by true e = absurd (true≢false (sym h ∙ ap is_some (maps.get-remove key_total m k q ∙ ap (λ b. cond b None (maps.get m q)) e)))

others : (m : Map key_cmp Contents) (k q : Key) → eq_by_cmp key_cmp q k ≡ false → maps.get (maps.remove m k) q ≡ maps.get m q
others m k q e = maps.get-remove key_total m k q ∙ ap (λ b. cond b None (maps.get m q)) e

-- the candidates that are left once a place was looked at
record Looked (r : Rows) (k : Key) (p q : Key → Bool) : Type 0 where
  still : (x : Key) → eq_by_cmp key_cmp x k ≡ false → p x ≡ true → q x ≡ true
  more : (x : Key) → let_go r k x ≡ true → (table_rule x.0).root ≡ false → q x ≡ true

one_look : (m : Map key_cmp Contents) (r : Rows) (k : Key) (p q : Key → Bool) → IsCollecting m r.rows p → Looked r k p q → IsCollecting m (collected_at r k).rows q
one_look m r k p q is looked = by (goes r.rows k) refl
  where
    stayed : (x : Key) → goes r.rows k ≡ false → maps.has r.rows x ≡ true → stays r.rows x ≡ false → (b : Bool) → eq_by_cmp key_cmp x k ≡ b → b ≡ false
    stayed x e there nothing false f = refl
    stayed x e there nothing true f =
        absurd (true≢false (sym (both (maps.has r.rows k) (not (stays r.rows k)) (ap (maps.has r.rows) (sym (tied x k f)) ∙ there) (ap (λ y. not (stays r.rows y)) (sym (tied x k f)) ∙ ap not nothing)) ∙ e))

    row_of : (o : Option Contents) → row_at r k ≡ o → is_some o ≡ true → (x : Key) → is_named r.rows x ≡ true → is_named (maps.remove r.rows k) x ≡ false → image_names (row_at r k) x ≡ true
    row_of None e h x named none = cc
    row_of (Some row) e h x named none = ap (λ o. image_names o x) e ∙ was_named r.rows k row x e named none

    by : (b : Bool) → goes r.rows k ≡ b → IsCollecting m (cond b (removed r k) r).rows q
    by false e = record {
      part = is.part;
      went = is.went;
      left = λ x there nothing. looked.still x (stayed x e there nothing (eq_by_cmp key_cmp x k) refl) (is.left x there nothing);
    }
    by true e = record {
      part = λ x there.
          let apart = elsewhere r.rows k x there in
          others r.rows k x apart ∙ is.part x (sym (ap is_some (others r.rows k x apart)) ∙ there);
      went = λ x was not_now. went_now x was not_now (eq_by_cmp key_cmp x k) refl;
      left = λ x there nothing.
          let apart = elsewhere r.rows k x there in
          left_now x (sym (ap is_some (others r.rows k x apart)) ∙ there) apart nothing (stays r.rows x) refl;
    }
      where
        went_now : (x : Key) → maps.has m x ≡ true → maps.has (maps.remove r.rows k) x ≡ false → (b : Bool) → eq_by_cmp key_cmp x k ≡ b → stays (maps.remove r.rows k) x ≡ false
        went_now x was not_now true f =
            still_not r.rows k x (ap (stays r.rows) (tied x k f) ∙ not_on (stays r.rows k) (second_so (maps.has r.rows k) (not (stays r.rows k)) e))
        went_now x was not_now false f = still_not r.rows k x (is.went x was (sym (ap is_some (others r.rows k x f)) ∙ not_now))

        left_now : (x : Key) → maps.has r.rows x ≡ true → eq_by_cmp key_cmp x k ≡ false → stays (maps.remove r.rows k) x ≡ false → (b : Bool) → stays r.rows x ≡ b → q x ≡ true
        left_now x there apart nothing false f = looked.still x apart (is.left x there f)
        left_now x there apart nothing true f =
            let leaf = neither_left (table_rule x.0).root (is_named (maps.remove r.rows k) x) nothing in
            let none = neither_right (table_rule x.0).root (is_named (maps.remove r.rows k) x) nothing in
            let named : is_named r.rows x ≡ true = or_cases (table_rule x.0).root (is_named r.rows x) (λ root. absurd (true≢false (sym root ∙ leaf))) (λ h. h) f in
            looked.more x (both (goes r.rows k) (image_names (row_at r k) x) e (row_of (row_at r k) refl (first_so (maps.has r.rows k) (not (stays r.rows k)) e) x named none)) leaf

-- ---- the candidates of a table, one by one

same_place : (t : Table) (i : ℕ) (q : Key) → eq_by_cmp key_cmp q (t, i) ≡ false → (same_table q.0 t && (q.1 == i)) ≡ false
same_place t i q e = by (same_table q.0 t) (q.1 == i) refl refl
  where
    by : (a b : Bool) → same_table q.0 t ≡ a → (q.1 == i) ≡ b → (a && b) ≡ false
    by false b f g = refl
    by true false f g = refl
    by true true f g =
        let number : q.1 ≡ i = grind (arith, nat_tests, g) in
        let same : q ≡ (t, i) = (λ n. (same_table_exact q.0 t f n, number n)) in
        absurd (true≢false (sym (ap (λ x. eq_by_cmp key_cmp x (t, i)) same ∙ itself (t, i)) ∙ e))

past_one : (later st here rest : Bool) → (st && here) ≡ false → (later || (st && (here || rest))) ≡ true → (later || (st && rest)) ≡ true
past_one true st here rest e h = refl
past_one false false here rest e h = h
past_one false true false rest e h = h
past_one false true true rest e h = cc

pub next_id_looked : (m : Map key_cmp Contents) (r : Rows) (t : Table) (i : ℕ) (ids : List ℕ) (ks now : List Key)
    → ((q : Key) → has_key now q ≡ (has_key ks q || let_go r (t, i) q)) → ((q : Key) → let_go r (t, i) q ≡ true → later_than t q ≡ true)
    → IsCollecting m r.rows (after_table t (i ∷ ids) ks) → IsCollecting m (collected_at r (t, i)).rows (after_table t ids now)
next_id_looked m r t i ids ks now adds later is = one_look m r (t, i) (after_table t (i ∷ ids) ks) (after_table t ids now) is (record {
  still = λ x apart picked.
      both (has_key now x) _ (adds x ∙ or_left (has_key ks x) (let_go r (t, i) x) (first_so (has_key ks x) _ picked))
      (past_one (nat_lt (table_place t) (table_place x.0)) (same_table x.0 t) (x.1 == i) (list_any (λ j. x.1 == j) ids) (same_place t i x apart) (second_so (has_key ks x) _ picked));
  more = λ x go leaf.
      both (has_key now x) _ (adds x ∙ or_right (has_key ks x) (let_go r (t, i) x) go)
      (or_left (nat_lt (table_place t) (table_place x.0)) _
      (or_cases (table_rule x.0).root (nat_lt (table_place t) (table_place x.0)) (λ root. absurd (true≢false (sym root ∙ leaf))) (λ h. h) (later x go)));
})

-- all candidates from a table on are those of it and those after it
key_same : (t : Table) (i : ℕ) (k : Key) → same_key (t, i) k ≡ (same_table t k.0 && (i == k.1))
key_same t i k = by (same_key (t, i) k) refl
  where
    equal : (n : ℕ) → (n == n) ≡ true
    equal n = grind (arith, nat_tests)

    by : (b : Bool) → same_key (t, i) k ≡ b → b ≡ (same_table t k.0 && (i == k.1))
    by false e = sym (same_place k.0 k.1 (t, i) e)
    by true e = sym (ap (λ x. same_table x.0 k.0 && (x.1 == k.1)) (tied (t, i) k e) ∙ both (same_table k.0 k.0) (k.1 == k.1) (same_table_itself k.0) (equal k.1))

pub first_ids : (t : Table) (ks : List Key) (i : ℕ) → list_any (λ j. i == j) (ids_at t ks) ≡ has_key ks (t, i)
first_ids t [] i = refl
first_ids t (k ∷ ks) i = by (first_ids t ks i) (same_table k.0 t) refl
  where
    other : (b : Bool) → same_table k.0 t ≡ b → same_key (t, i) k ≡ (b && (i == k.1))
    other b e = key_same t i k ∙ ap (λ a. a && (i == k.1)) ((eq_by_cmp_equiv table_total).symm t k.0 ∙ e)

    by : list_any (λ j. i == j) (ids_at t ks) ≡ has_key ks (t, i) → (b : Bool) → same_table k.0 t ≡ b
        → list_any (λ j. i == j) (map (λ x. x.1) (cond b (k ∷ filter (λ x. same_table x.0 t) ks) (filter (λ x. same_table x.0 t) ks))) ≡ (same_key (t, i) k || has_key ks (t, i))
    by rest true e = ap (λ b. (i == k.1) || b) rest ∙ ap (λ b. b || has_key ks (t, i)) (sym (other true e))
    by rest false e = rest ∙ ap (λ b. b || has_key ks (t, i)) (sym (other false e))

pub first_looked : (m n : Map key_cmp Contents) (t : Table) (ks : List Key) → IsCollecting m n (from_place (table_place t) ks) → IsCollecting m n (after_table t (ids_at t ks) ks)
first_looked m n t ks is = record {
  part = is.part;
  went = is.went;
  left = λ x there nothing. split x (is.left x there nothing);
}
  where
    split : (x : Key) → from_place (table_place t) ks x ≡ true → after_table t (ids_at t ks) ks x ≡ true
    split x h = both (has_key ks x) _ (first_so (has_key ks x) _ h) (by (nat_lt (table_place t) (table_place x.0)) refl)
      where
        by : (b : Bool) → nat_lt (table_place t) (table_place x.0) ≡ b → (b || (same_table x.0 t && list_any (λ j. x.1 == j) (ids_at t ks))) ≡ true
        by true e = refl
        by false e =
            let most : nat_le (table_place t) (table_place x.0) ≡ true = second_so (has_key ks x) _ h in
            let same : table_place x.0 ≡ table_place t = grind (arith, nat_tests, most, e) in
            let own : same_table x.0 t ≡ true = ap (λ n. is_eq (nat_cmp n (table_place t))) same ∙ same_table_itself t in
            both (same_table x.0 t) _ own (first_ids t ks x.1 ∙ ap (λ u. has_key ks (u, x.1)) (sym (same_table_exact x.0 t own)) ∙ first_so (has_key ks x) _ h)

pub all_looked : (m n : Map key_cmp Contents) (t : Table) (ks : List Key) → IsCollecting m n (after_table t [] ks) → IsCollecting m n (from_place (table_place t + 1) ks)
all_looked m n t ks is = record {
  part = is.part;
  went = is.went;
  left = λ x there nothing.
      let picked = is.left x there nothing in
      both (has_key ks x) _ (first_so (has_key ks x) _ picked)
      (or_cases (nat_lt (table_place t) (table_place x.0)) (same_table x.0 t && false) (λ later. grind (arith, nat_tests, later)) (λ none. absurd (true≢false (sym (second_so (same_table x.0 t) false none)))) (second_so (has_key ks x) _ picked));
}

-- ---- from the first to the last table

pub place_at : (i : ℕ) (t : Table) → i < length tables → table_place (get_or tables i t) ≡ i
place_at zero t h = refl
place_at (suc zero) t h = refl
place_at (suc (suc zero)) t h = refl
place_at (suc (suc (suc zero))) t h = refl
place_at (suc (suc (suc (suc zero)))) t h = refl
place_at (suc (suc (suc (suc (suc zero))))) t h = refl
place_at (suc (suc (suc (suc (suc (suc zero)))))) t h = refl
place_at (suc (suc (suc (suc (suc (suc (suc zero))))))) t h = refl
place_at (suc (suc (suc (suc (suc (suc (suc (suc zero)))))))) t h = refl
place_at (suc (suc (suc (suc (suc (suc (suc (suc (suc zero))))))))) t h = refl
place_at (suc (suc (suc (suc (suc (suc (suc (suc (suc (suc zero)))))))))) t h = refl
place_at (suc (suc (suc (suc (suc (suc (suc (suc (suc (suc (suc zero))))))))))) t h = refl
place_at (suc (suc (suc (suc (suc (suc (suc (suc (suc (suc (suc (suc n)))))))))))) t h = absurd (omega (arith, h))

below : (t : Table) → nat_lt (table_place t) 12 ≡ true
below Global = refl
below _ = refl

no_place : (i : ℕ) (t : Table) → 12 ≤ i → nat_le i (table_place t) ≡ false
no_place i t h =
    let small : table_place t < 12 = so_lt (table_place t) 12 (below t) in
    not_le i (table_place t) (omega (arith, small, h))
  where
    so_lt : (a b : ℕ) → nat_lt a b ≡ true → a < b
    so_lt a b e = grind (arith, nat_tests, e)

    not_le : (a b : ℕ) → b < a → nat_le a b ≡ false
    not_le a b e = grind (arith, nat_tests, e)

pub place_of : (items : List Table) (i : ℕ) (t : Table) → items ≡ tables → i < length items → table_place (get_or items i t) ≡ i
place_of items i t e h = ap (λ ts. table_place (get_or ts i t)) e ∙ place_at i t (subst (λ ts. i < length ts) e h)

pub one_table : (m n after : Map key_cmp Contents) (items : List Table) (i : ℕ) (t : Table) (ks now : List Key) → items ≡ tables → i < length items → IsCollecting m n (from_place i ks)
    → (IsCollecting m n (from_place (table_place (get_or items i t)) ks) → IsCollecting m after (from_place (table_place (get_or items i t) + 1) now)) → IsCollecting m after (from_place (i + 1) now)
one_table m n after items i t ks now e h is next =
    subst (λ p. IsCollecting m after (from_place (p + 1) now)) (place_of items i t e h) (next (subst (λ p. IsCollecting m n (from_place p ks)) (sym (place_of items i t e h)) is))

pub is_whole : (r : Rows) (n : Map key_cmp Contents) (ks : List Key) (items : List Table) (i : ℕ) → items ≡ tables → length items ≤ i → IsRows r → IsCollecting r.rows n (from_place i ks) → n ≡ (collected r).rows
is_whole r n ks items i same over rows is = only_one r n rows exact is.part
  where
    most : 12 ≤ i
    most = let count : length items ≡ 12 = ap length same in omega (arith, count, over)

    none : (x : Key) → maps.has n x ≡ true → stays n x ≡ false → ⊥
    none x there nothing = true≢false (sym (second_so (has_key ks x) _ (is.left x there nothing)) ∙ no_place i x.0 most)

    exact : (x : Key) → maps.has n x ≡ (maps.has r.rows x && stays n x)
    exact x = by (maps.has n x) (maps.has r.rows x) refl refl
      where
        by : (a b : Bool) → maps.has n x ≡ a → maps.has r.rows x ≡ b → a ≡ (b && stays n x)
        by true true e f = sym (yes (stays n x) (none x e))
        by true false e f = absurd (true≢false (sym (sym (ap is_some (is.part x e)) ∙ e) ∙ f))
        by false true e f = sym (is.went x f e)
        by false false e f = refl

-- ---- the first candidates

module _ (b : Images) (counter : ℕ) (r : Rows) (clean : collected (restored b counter r) ≡ restored b counter r) where
  abbrev before : Rows
  before = restored b counter r

  -- a row that was there was of a root table, or named
  stayed : (x : Key) → maps.has before.rows x ≡ true → stays before.rows x ≡ true
  stayed x there =
      second_so (maps.has before.rows x) (stays before.rows x)
      (sym (ap (λ y. maps.has y.rows x) (sym clean) ∙ exact_in (length before.rows.list) before.rows (omega arith) x ∙ ap (λ y. maps.has before.rows x && stays y.rows x) clean) ∙ there)

  silent : (x : Key) → may_go b.list x ≡ false → (k : Key) (o : Option Contents) → maps.get b k ≡ Some o → image_names o x ≡ false
  silent x quiet k o is =
      neither_right (same_key x k) (image_names o x)
      (not_on (same_key x k || image_names o x) (found key_exact (λ e. not (same_key x e.0 || image_names e.1 x)) k o b.list (none_any (λ e. same_key x e.0 || image_names e.1 x) b.list quiet) is))

  not_written : (x : Key) → may_go b.list x ≡ false → (o : Option (Option Contents)) → maps.get b x ≡ o → o ≡ None
  not_written x quiet None is = refl
  not_written x quiet (Some o) is =
      absurd (true≢false (sym (itself x) ∙ neither_left (same_key x x) (image_names o x)
      (not_on (same_key x x || image_names o x) (found key_exact (λ e. not (same_key x e.0 || image_names e.1 x)) x o b.list (none_any (λ e. same_key x e.0 || image_names e.1 x) b.list quiet) is))))

  pub may_go_so : (x : Key) → maps.has r.rows x ≡ true → stays r.rows x ≡ false → may_go b.list x ≡ true
  may_go_so x there nothing = yes (may_go b.list x) (λ quiet.
      let same = untouched b counter r x (not_written x quiet (maps.get b x) refl) in
      let was = stayed x (ap is_some same ∙ there) in
      let named : is_named before.rows x ≡ true =
      or_cases (table_rule x.0).root (is_named before.rows x) (λ root. absurd (true≢false (sym root ∙ neither_left (table_rule x.0).root (is_named r.rows x) nothing))) (λ h. h) was in
      true≢false (sym named ∙ none_names before.rows x (λ k row is. each quiet k row is (maps.get b k) refl)))
    where
      each : may_go b.list x ≡ false → (k : Key) (row : Contents) → row_at before k ≡ Some row → (o : Option (Option Contents)) → maps.get b k ≡ o → names row x ≡ false
      each quiet k row is None e = named_so r.rows k row x (sym (untouched b counter r k e) ∙ is) (neither_right (table_rule x.0).root (is_named r.rows x) nothing)
      each quiet k row is (Some o) e = ap (λ y. image_names y x) (sym is ∙ touched b counter r k o e) ∙ silent x quiet k o e

  pub first_candidates : (ks : List Key) → ((k : Key) → has_key ks k ≡ may_go b.list k) → IsCollecting r.rows r.rows (from_place 0 ks)
  first_candidates ks is = record {
    part = λ x there. refl;
    went = λ x was not_now. absurd (true≢false (sym was ∙ not_now));
    left = λ x there nothing. both (has_key ks x) _ (is x ∙ may_go_so x there nothing) (le_so 0 (table_place x.0) (omega arith));
  }

-- ---- what the calls answer

pub each_ok : {A E : Type 0} {P Q : A → Type 0} (r : Result A E) → IfOk r P → ((a : A) → P a → Q a) → IfOk r Q
each_ok (Ok a) h so = so a h
each_ok (Err e) h so = tt

-- a row that is not there, or that stays
pub nothing_goes : (r : Rows) (k : Key) → goes r.rows k ≡ false → (ks : List Key) (q : Key) → has_key ks q ≡ (has_key ks q || let_go r k q)
nothing_goes r k e ks q = sym (ap (λ b. has_key ks q || (b && image_names (row_at r k) q)) e ∙ off (has_key ks q))
  where
    off : (b : Bool) → (b || false) ≡ b
    off true = refl
    off false = refl

pub nothing_later : (r : Rows) (k : Key) → goes r.rows k ≡ false → (q : Key) → let_go r k q ≡ true → later_than k.0 q ≡ true
nothing_later r k e q h = absurd (true≢false (sym h ∙ ap (λ b. b && image_names (row_at r k) q) e))

pub nothing_there : (r : Rows) (k : Key) → row_at r k ≡ None → goes r.rows k ≡ false
nothing_there r k e = ap (λ o. is_some o && not (stays r.rows k)) e

pub it_stays : (r : Rows) (k : Key) → stays r.rows k ≡ true → goes r.rows k ≡ false
it_stays r k e = ap (λ b. maps.has r.rows k && not b) e ∙ off (maps.has r.rows k)
  where
    off : (b : Bool) → (b && false) ≡ false
    off true = refl
    off false = refl

pub it_goes : (r : Rows) (k : Key) (row : Contents) → row_at r k ≡ Some row → stays r.rows k ≡ false → goes r.rows k ≡ true
it_goes r k row is e = both (maps.has r.rows k) (not (stays r.rows k)) (ap is_some is) (ap not e)

pub lets_go : (r : Rows) (k : Key) (row : Contents) → row_at r k ≡ Some row → stays r.rows k ≡ false → (q : Key) → names row q ≡ let_go r k q
lets_go r k row is e q = sym (λ n. it_goes r k row is e n && image_names (is n) q)

pub later_tables : (r : Rows) (k : Key) → IsRows r → (q : Key) → let_go r k q ≡ true → later_than k.0 q ≡ true
later_tables r k rows q h = by (row_at r k) refl (second_so (goes r.rows k) (image_names (row_at r k) q) h)
  where
    among : (ks : List Key) → list_all (later_than k.0) ks ≡ true → has_key ks q ≡ true → later_than k.0 q ≡ true
    among [] all name = cc
    among (x ∷ xs) all name = or_cases (same_key q x) (has_key xs q) (λ e. ap (later_than k.0) (tied q x e) ∙ first_so (later_than k.0 x) _ all) (among xs (second_so (later_than k.0 x) _ all)) name

    by : (o : Option Contents) → row_at r k ≡ o → image_names o q ≡ true → later_than k.0 q ≡ true
    by None e name = cc
    by (Some row) e name = among (references row) (found key_exact (λ e. list_all (later_than e.0.0) (references e.1)) k row r.rows.list (rows_down r rows) e) name

pub same_versions : (v w : Versions) (r : Rows) → v.committed ≡ w.committed → v.current ≡ r → ◌≡◌ {A = Versions} v (record { committed = w.committed; current = r })
same_versions v w r e f n = record { committed = e n; current = f n }

pub if_ok : {A E P : Type 0} (r : Result A E) → P → OnOk r P
if_ok (Ok a) p = p
if_ok (Err e) p = tt

-- the address and the counter stay
pub still_formed : (a b c : Rows) → a ≡ record b { rows = a.rows } → b ≡ record c { rows = b.rows } → a ≡ record c { rows = a.rows }
still_formed a b c e f = λ n. record { made = (ap (λ x. x.made) e ∙ ap (λ x. x.made) f) n; counter = (ap (λ x. x.counter) e ∙ ap (λ x. x.counter) f) n; rows = a.rows }

pub formed_at : (a b : Rows) (k : Key) → a ≡ collected_at b k → a ≡ record b { rows = a.rows }
formed_at a b k e = by (goes b.rows k) e
  where
    by : (t : Bool) → a ≡ cond t (removed b k) b → a ≡ record b { rows = a.rows }
    by true f = λ n. record { made = (ap (λ x. x.made) f) n; counter = (ap (λ x. x.counter) f) n; rows = a.rows }
    by false f = λ n. record { made = (ap (λ x. x.made) f) n; counter = (ap (λ x. x.counter) f) n; rows = a.rows }

pub whole_rows : (a b : Rows) → a ≡ record b { rows = a.rows } → a.rows ≡ (collected b).rows → a ≡ collected b
whole_rows a b e f = e ∙ (λ n. record { made = b.made; counter = b.counter; rows = f n })
