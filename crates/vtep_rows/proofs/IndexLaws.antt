-- What the calls keep of the indexes.
use Rattle.std.proofs.Common.{◌≡◌, ℕ, ◌+◌, ◌-◌, Bool, true, false, cond, ◌&&◌, nat_lt, length, Option, Some, None, refl, sym, ap, ◌∙◌, arith}
use Rattle.std.proofs.lemmas.List.Sums.{length-filter}
use Rattle.std.specs.List.{filter, list_any, count_by}
use Rattle.std.specs.Prelude.{if◌then◌else◌}
use Rattle.std.specs.Ordering.{eq_by_cmp}
use Rattle.std.specs.Cmp.{Equal-is, eq_by_cmp_equiv}
use Rattle.vtep_base.specs.Maps as maps
use Rattle.vtep_base.specs.Maps.{Map}
use Rattle.vtep_schema.specs.declared.Table.{Table}
use Rattle.vtep_schema.specs.Tables.{same_table, tables}
use Rattle.vtep_rows.specs.declared.indexes.Indexes.{Indexes}
use Rattle.vtep_rows.specs.Row.{Contents, references}
use Rattle.vtep_rows.specs.Rows.{Key, key_cmp, same_key, Rows, rows_of, names, is_named}
use Rattle.vtep_rows.specs.Orders.{key_total, key_exact}
use Rattle.vtep_rows.specs.Tallies.{count_at}
use Rattle.vtep_rows.specs.Names.{naming_cmp, named_by}
use Rattle.vtep_rows.specs.Marks.{Mark, marked_by}
use Rattle.vtep_rows.specs.Indexes.{Count, Named, Marked, Sized, count_in, size_at, adds, total, part, put_back, IsIndexed}
use Rattle.vtep_rows.proofs.Anys.{any_alike, any_filter, any_and, any_swap, some_part, some_counted}
use Rattle.vtep_rows.proofs.Breaches.{any_map}
use Rattle.vtep_rows.proofs.SoundLaws.{in_tables}
use Rattle.vtep_rows.proofs.TallyLaws.{up, down}
use Rattle.vtep_rows.proofs.Sums.{total-put, total-gone}

-- ---- counts of one row

pub added : (x y : Indexes) (k : Key) (row : Contents) → ((q : Key) (t : Table) → count_at y.names (q.0, q.1, t) ≡ count_at x.names (q.0, q.1, t) + named_by k.0 t q (references row))
    → ((q : Mark) → count_at y.marks q ≡ count_at x.marks q + marked_by q k row)
    → ((t : Table) → size_at y.sizes t ≡ (if same_table k.0 t then size_at x.sizes t + 1 else size_at x.sizes t)) → (c : Count) → count_in y c ≡ count_in x c + adds c (k, row)
added x y k row named marked sized (Named q t) = named q t
added x y k row named marked sized (Marked q) = marked q
added x y k row named marked sized (Sized t) = sized t ∙ up (same_table k.0 t) (size_at x.sizes t)

pub taken : (x y : Indexes) (k : Key) (row : Contents) → ((q : Key) (t : Table) → count_at y.names (q.0, q.1, t) ≡ count_at x.names (q.0, q.1, t) - named_by k.0 t q (references row))
    → ((q : Mark) → count_at y.marks q ≡ count_at x.marks q - marked_by q k row)
    → ((t : Table) → size_at y.sizes t ≡ (if same_table k.0 t then size_at x.sizes t - 1 else size_at x.sizes t)) → (c : Count) → count_in y c ≡ count_in x c - adds c (k, row)
taken x y k row named marked sized (Named q t) = named q t
taken x y k row named marked sized (Marked q) = marked q
taken x y k row named marked sized (Sized t) = sized t ∙ down (same_table k.0 t) (size_at x.sizes t)

undone : (n m o a : ℕ) → m ≡ n + a → o ≡ m - a → o ≡ n
undone n m o a e f = omega arith

-- what was counted in the names alone, and out again
pub untouched : (x y : Indexes) (k : Key) (row : Contents) (names : Map naming_cmp ℕ) → ((q : Key) (t : Table) → count_at names (q.0, q.1, t) ≡ count_at x.names (q.0, q.1, t) + named_by k.0 t q (references row))
    → ((q : Key) (t : Table) → count_at y.names (q.0, q.1, t) ≡ count_at names (q.0, q.1, t) - named_by k.0 t q (references row)) → ((q : Mark) → count_at y.marks q ≡ count_at x.marks q)
    → x.sizes ≡ y.sizes → (c : Count) → count_in y c ≡ count_in x c
untouched x y k row names more less marked sized (Named q t) = undone (count_at x.names (q.0, q.1, t)) (count_at names (q.0, q.1, t)) (count_at y.names (q.0, q.1, t)) (named_by k.0 t q (references row)) (more q t) (less q t)
untouched x y k row names more less marked sized (Marked q) = marked q
untouched x y k row names more less marked sized (Sized t) = ap (λ s. size_at s t) (sym sized)

-- ---- counts of all rows

its_own : (b : Bool) (x o : Option Contents) → b ≡ true → cond b x o ≡ x
its_own true x o e = refl
its_own false x o e = cc

pub put_there : (m : Map key_cmp Contents) (k : Key) (row : Contents) → maps.get (maps.insert m k row) k ≡ Some row
put_there m k row = maps.get-insert key_total m k row k ∙ its_own (eq_by_cmp key_cmp k k) (Some row) (maps.get m k) ((eq_by_cmp_equiv key_total).refl k)

changed : (x y z s t a o : ℕ) → x ≡ s → y ≡ x + a → z ≡ y - o → t + o ≡ s + a → z ≡ t
changed x y z s t a o e f g h = omega arith

pub indexed_put : (x y z : Indexes) (m n : Map key_cmp Contents) (k : Key) (row : Contents) (old : Option Contents) → IsIndexed x m → n ≡ maps.insert m k row → old ≡ maps.get m k
    → ((c : Count) → count_in y c ≡ count_in x c + part (adds c) k (maps.get n k)) → ((c : Count) → count_in z c ≡ count_in y c - part (adds c) k old) → IsIndexed z n
indexed_put x y z m n k row old is put before more less c =
    changed (count_in x c) (count_in y c) (count_in z c) (total (adds c) m) (total (adds c) (maps.insert m k row)) (adds c (k, row)) (part (adds c) k old) (is c)
    (more c ∙ ap (λ o. count_in x c + part (adds c) k o) (ap (λ p. maps.get p k) put ∙ put_there m k row)) (less c)
    (ap (λ o. total (adds c) (maps.insert m k row) + part (adds c) k o) before ∙ total-put (adds c) m k row)
    ∙ ap (total (adds c)) (sym put)

gone : (x y s t o : ℕ) → x ≡ s → y ≡ x - o → t + o ≡ s → y ≡ t
gone x y s t o e f g = omega arith

pub indexed_removed : (x y : Indexes) (m n : Map key_cmp Contents) (k : Key) (old : Option Contents) → IsIndexed x m → n ≡ maps.remove m k → old ≡ maps.get m k
    → ((c : Count) → count_in y c ≡ count_in x c - part (adds c) k old) → IsIndexed y n
indexed_removed x y m n k old is put before less c =
    gone (count_in x c) (count_in y c) (total (adds c) m) (total (adds c) (maps.remove m k)) (part (adds c) k old) (is c) (less c)
    (ap (λ o. total (adds c) (maps.remove m k) + part (adds c) k o) before ∙ total-gone (adds c) m k)
    ∙ ap (total (adds c)) (sym put)

pub indexed_same : (x y : Indexes) (m n : Map key_cmp Contents) → IsIndexed x m → n ≡ m → ((c : Count) → count_in y c ≡ count_in x c) → IsIndexed y n
indexed_same x y m n is same alike c = alike c ∙ is c ∙ ap (total (adds c)) (sym same)

-- a row that was put in and goes again
pub put_back_is : (m n : Map key_cmp Contents) (k : Key) (row : Contents) (old : Option Contents) → n ≡ maps.insert m k row → old ≡ maps.get m k → put_back n k old ≡ m
put_back_is m n k row old put before = ap (λ p. put_back p k old) put ∙ ap (put_back (maps.insert m k row) k) before ∙ maps.same_map key_total key_exact _ _ (λ q. by (maps.get m k) refl q ∙ at q (eq_by_cmp key_cmp q k) refl)
  where
    by : (o : Option Contents) → maps.get m k ≡ o → (q : Key) → maps.get (put_back (maps.insert m k row) k (maps.get m k)) q ≡ cond (eq_by_cmp key_cmp q k) (maps.get m k) (maps.get (maps.insert m k row) q)
    by None e q = ap (λ o. maps.get (put_back (maps.insert m k row) k o) q) e ∙ maps.get-remove key_total (maps.insert m k row) k q ∙ ap (λ o. cond (eq_by_cmp key_cmp q k) o (maps.get (maps.insert m k row) q)) (sym e)
    by (Some x) e q = ap (λ o. maps.get (put_back (maps.insert m k row) k o) q) e ∙ maps.get-insert key_total (maps.insert m k row) k x q ∙ ap (λ o. cond (eq_by_cmp key_cmp q k) o (maps.get (maps.insert m k row) q)) (sym e)

    at : (q : Key) (b : Bool) → eq_by_cmp key_cmp q k ≡ b → cond (eq_by_cmp key_cmp q k) (maps.get m k) (maps.get (maps.insert m k row) q) ≡ maps.get m q
    at q true e = ap (λ b. cond b (maps.get m k) (maps.get (maps.insert m k row) q)) e ∙ ap (maps.get m) (sym (key_exact q k ((Equal-is (key_cmp q k)).0 e)))
    at q false e = ap (λ b. cond b (maps.get m k) (maps.get (maps.insert m k row) q)) e ∙ maps.get-insert key_total m k row q ∙ ap (λ b. cond b (Some row) (maps.get m q)) e

-- ---- what the indexes answer

pub sized_is : (x : Indexes) (m now : Map key_cmp Contents) (t : Table) → IsIndexed x m → m ≡ now → size_at x.sizes t ≡ length (filter (λ e. same_table e.0.0 t) now.list)
sized_is x m now t is same = is (Sized t) ∙ sym (length-filter (λ e. same_table e.0.0 t) m.list) ∙ ap (λ p. length (filter (λ e. same_table e.0.0 t) p.list)) same

some_if : (b : Bool) (n : ℕ) → nat_lt 0 (cond b n 0) ≡ (b && nat_lt 0 n)
some_if true n = refl
some_if false n = refl

pub named_is : (x : Indexes) (m now : Map key_cmp Contents) (t : Table) (k : Key) → IsIndexed x m → m ≡ now
    → nat_lt 0 (count_at x.names (k.0, k.1, t)) ≡ list_any (λ e. same_table e.0.0 t && names e.1 k) now.list
named_is x m now t k is same =
    ap (nat_lt 0) (is (Named k t))
    ∙ some_part (adds (Named k t)) m.list
    ∙ any_alike _ _ (λ e. some_if (same_table e.0.0 t) (count_by (same_key k) (references e.1)) ∙ ap (λ b. same_table e.0.0 t && b) (some_counted (same_key k) (references e.1))) m.list
    ∙ ap (λ p. list_any (λ e. same_table e.0.0 t && names e.1 k) p.list) same

pub named_by_any : (m : Map key_cmp Contents) (k : Key) → list_any (λ t. list_any (λ e. same_table e.0.0 t && names e.1 k) m.list) tables ≡ is_named m k
named_by_any m k =
    any_swap (λ t e. same_table e.0.0 t && names e.1 k) tables m.list
    ∙ any_alike _ _ (λ e. any_and (same_table e.0.0) (names e.1 k) tables ∙ ap (λ b. b && names e.1 k) (in_tables e.0.0)) m.list

-- what some row of a table passes
pub of_rows : (r : Rows) (t : Table) (p : ℕ × Contents → Bool) → list_any p (rows_of t r) ≡ list_any (λ e. same_table e.0.0 t && p (e.0.1, e.1)) r.rows.list
of_rows r t p =
    any_map p (λ (e : Key × Contents). (e.0.1, e.1)) (filter (λ e. same_table e.0.0 t) r.rows.list)
    ∙ any_filter (λ (e : Key × Contents). p (e.0.1, e.1)) (λ e. same_table e.0.0 t) r.rows.list
