-- Rows that are written while what they were is remembered, and rows that are put back.
use Rattle.std.proofs.Common.{◌≡◌, ℕ, ◌+◌, ◌≤◌, Bool, true, false, cond, T, List, [], ◌∷◌, is_some, Option, Some, None, Result, Ok, Err, OnOk, OnErr, refl, sym, ap, subst, ◌∙◌, true≢false, arith}
use Rattle.std.specs.Ordering.{eq_by_cmp, is_eq}
use Rattle.std.specs.Cmp.{Equal-is, eq_by_cmp_equiv}
use Rattle.std.specs.declared.cmp.Ordering.{Ordering}
use Rattle.std.specs.declared.cmp.Ordering.TheVariants.{Less, Equal, Greater}
use Rattle.std.specs.FinMap.{find, is_sorted}
use Rattle.std.specs.FinMap.Entries.{below_all}
use Rattle.vtep_base.specs.Maps as maps
use Rattle.vtep_base.specs.Maps.{Map}
use Rattle.vtep_schema.specs.declared.Table.{Table}
use Rattle.vtep_rows.specs.Row.{Contents}
use Rattle.vtep_rows.specs.Rows.{Key, key_cmp, Rows, row_at, next_id, inserted, replaced, removed, IsRows, is_given}
use Rattle.vtep_rows.specs.Orders.{key_total, key_exact}
use Rattle.vtep_rows.specs.Indexes.{put_back}
use Rattle.vtep_rows.specs.Database.{Images, Versions, all_back, restored, remembered, IsBefore}
use Rattle.vtep_rows.proofs.Entries.{t_first, t_second, none_below}
use Rattle.vtep_rows.proofs.Kept.{its_identifier, same_rows}

pub itself : (k : Key) → eq_by_cmp key_cmp k k ≡ true
itself k = (eq_by_cmp_equiv key_total).refl k

pub tied : (q k : Key) → eq_by_cmp key_cmp q k ≡ true → q ≡ k
tied q k e = key_exact q k ((Equal-is (key_cmp q k)).0 e)

-- ---- what is there once all images are back

-- the image, or else what is there
abbrev pub back : Option (Option Contents) → Option Contents → Option Contents
back None x = x
back (Some image) x = image

get-put_back : (m : Map key_cmp Contents) (k : Key) (o : Option Contents) (q : Key) → maps.get (put_back m k o) q ≡ cond (eq_by_cmp key_cmp q k) o (maps.get m q)
get-put_back m k None q = maps.get-remove key_total m k q
get-put_back m k (Some row) q = maps.get-insert key_total m k row q

one_back : (b : Bool) (o x : Option Contents) (f : Option (Option Contents)) → (b ≡ true → f ≡ None) → back f (cond b o x) ≡ back (cond b (Some o) f) x
one_back true o x None h = refl
one_back true o x (Some y) h = let e : Some y ≡ None = h refl in cc
one_back false o x f h = refl

get-all_back : (m : Map key_cmp Contents) (es : List (Key × Option Contents)) (q : Key) → T (is_sorted key_cmp es) → maps.get (all_back m es) q ≡ back (find key_cmp q es) (maps.get m q)
get-all_back m [] q h = refl
get-all_back m (e ∷ es) q h =
    get-all_back (put_back m e.0 e.1) es q (t_second (below_all key_cmp e.0 es) (is_sorted key_cmp es) h)
    ∙ ap (back (find key_cmp q es)) (get-put_back m e.0 e.1 q)
    ∙ one_back (eq_by_cmp key_cmp q e.0) e.1 (maps.get m q) (find key_cmp q es) (alone (key_cmp q e.0) refl)
  where
    alone : (r : Ordering) → key_cmp q e.0 ≡ r → is_eq r ≡ true → find key_cmp q es ≡ None
    alone Equal tie g = none_below key_total q e.0 es tie (t_first (below_all key_cmp e.0 es) (is_sorted key_cmp es) h)
    alone Less tie g = cc
    alone Greater tie g = cc

pub restored_at : (b : Images) (counter : ℕ) (r : Rows) (q : Key) → row_at (restored b counter r) q ≡ back (maps.get b q) (row_at r q)
restored_at b counter r q = get-all_back r.rows b.list q b.sorted

-- ---- what a place was is remembered before it is written

-- a place that is remembered may be written
written : (b : Images) (m n : Map key_cmp Contents) (k : Key) → maps.has b k ≡ true → ((q : Key) → eq_by_cmp key_cmp q k ≡ false → maps.get n q ≡ maps.get m q)
    → all_back n b.list ≡ all_back m b.list
written b m n k there others = maps.same_map key_total key_exact _ _ (λ q.
    get-all_back n b.list q b.sorted ∙ at q (eq_by_cmp key_cmp q k) refl (maps.get b q) refl ∙ sym (get-all_back m b.list q b.sorted))
  where
    at : (q : Key) (t : Bool) → eq_by_cmp key_cmp q k ≡ t → (f : Option (Option Contents)) → maps.get b q ≡ f → back f (maps.get n q) ≡ back f (maps.get m q)
    at q t e (Some image) is = refl
    at q false e None is = others q e
    at q true e None is =
        let none : is_some (maps.get b k) ≡ false = ap (λ x. is_some (maps.get b x)) (sym (tied q k e)) ∙ ap is_some is in
        cc

kept : (b : Images) (m : Map key_cmp Contents) (k : Key) → maps.has b k ≡ false → all_back m (maps.insert b k (maps.get m k)).list ≡ all_back m b.list
kept b m k missing = maps.same_map key_total key_exact _ _ (λ q.
    get-all_back m (maps.insert b k (maps.get m k)).list q (maps.insert b k (maps.get m k)).sorted ∙ ap (λ f. back f (maps.get m q)) (maps.get-insert key_total b k (maps.get m k) q)
    ∙ at q (eq_by_cmp key_cmp q k) refl (maps.get b q) refl ∙ sym (get-all_back m b.list q b.sorted))
  where
    at : (q : Key) (t : Bool) → eq_by_cmp key_cmp q k ≡ t → (f : Option (Option Contents)) → maps.get b q ≡ f → back (cond t (Some (maps.get m k)) f) (maps.get m q) ≡ back f (maps.get m q)
    at q false e f is = refl
    at q true e None is = ap (maps.get m) (sym (tied q k e))
    at q true e (Some image) is =
        let some : is_some (maps.get b k) ≡ true = ap (λ x. is_some (maps.get b x)) (sym (tied q k e)) ∙ ap is_some is in
        cc

remembered_same : (b : Images) (counter : ℕ) (r : Rows) (k : Key) → restored (remembered b r k) counter r ≡ restored b counter r
remembered_same b counter r k = by (maps.has b k) refl
  where
    by : (t : Bool) → maps.has b k ≡ t → restored (cond t b (maps.insert b k (row_at r k))) counter r ≡ restored b counter r
    by true e = refl
    by false e = same_rows r.made counter _ _ (kept b r.rows k e)

remembered_there : (b : Images) (r : Rows) (k : Key) → maps.has (remembered b r k) k ≡ true
remembered_there b r k = by (maps.has b k) refl
  where
    by : (t : Bool) → maps.has b k ≡ t → maps.has (cond t b (maps.insert b k (row_at r k))) k ≡ true
    by true e = e
    by false e = ap is_some (maps.get-insert key_total b k (row_at r k) k ∙ ap (λ x. cond x (Some (row_at r k)) (maps.get b k)) (itself k))

-- one row is written, and the rows before stay
pub record Wrote (b c : Images) (counter : ℕ) (r s : Rows) : Type 0 where
  pub same : restored c counter s ≡ restored b counter r
  pub before : IsBefore c counter s

wrote : (b c : Images) (counter : ℕ) (r s : Rows) (k : Key) → IsBefore b counter r → c ≡ remembered b r k → s.made ≡ r.made → r.counter ≤ s.counter
    → ((q : Key) → eq_by_cmp key_cmp q k ≡ false → row_at s q ≡ row_at r q) → Wrote b c counter r s
wrote b c counter r s k is image made more others =
    let same : restored c counter s ≡ restored b counter r =
    (λ i. restored (image i) counter s)
    ∙ (λ i. record { made = made i; counter = counter; rows = written (remembered b r k) r.rows s.rows k (remembered_there b r k) others i })
    ∙ remembered_same b counter r k in
    let most : counter ≤ r.counter = is.most in
    record { same = same; before = record { rows = subst IsRows (sym same) is.rows; most = omega (arith, most, more) } }

still : (n : ℕ) → n ≤ n
still n = omega arith

pub wrote_inserted : (b c : Images) (counter : ℕ) (r s : Rows) (t : Table) (row : Contents) → IsBefore b counter r → c ≡ remembered b r (t, next_id r) → row.table ≡ t → s ≡ inserted r row → Wrote b c counter r s
wrote_inserted b c counter r s t row is image table put =
    wrote b c counter r s (row.table, next_id r) is (image ∙ ap (λ u. remembered b r (u, next_id r)) (sym table)) (ap (λ x. x.made) put)
    (subst (λ x. r.counter ≤ x.counter) (sym put) (one_more r.counter))
    (λ q e. ap (λ x. row_at x q) put ∙ maps.get-insert key_total r.rows (row.table, next_id r) row q ∙ ap (λ x. cond x (Some row) (maps.get r.rows q)) e)
  where
    one_more : (n : ℕ) → n ≤ n + 1
    one_more n = omega arith

pub wrote_replaced : (b c : Images) (counter : ℕ) (r s : Rows) (k : Key) (row : Contents) → IsBefore b counter r → c ≡ remembered b r k → s ≡ replaced r k row → Wrote b c counter r s
wrote_replaced b c counter r s k row is image put =
    wrote b c counter r s k is image (ap (λ x. x.made) put) (subst (λ x. r.counter ≤ x.counter) (sym put) (still r.counter))
    (λ q e. ap (λ x. row_at x q) put ∙ maps.get-insert key_total r.rows k row q ∙ ap (λ x. cond x (Some row) (maps.get r.rows q)) e)

pub wrote_removed : (b c : Images) (counter : ℕ) (r s : Rows) (k : Key) → IsBefore b counter r → c ≡ remembered b r k → s ≡ removed r k → Wrote b c counter r s
wrote_removed b c counter r s k is image gone =
    wrote b c counter r s k is image (ap (λ x. x.made) gone) (subst (λ x. r.counter ≤ x.counter) (sym gone) (still r.counter))
    (λ q e. ap (λ x. row_at x q) gone ∙ maps.get-remove key_total r.rows k q ∙ ap (λ x. cond x None (maps.get r.rows q)) e)

pub wrote_nothing : (b c : Images) (counter : ℕ) (r s : Rows) → IsBefore b counter r → c ≡ b → s ≡ r → Wrote b c counter r s
wrote_nothing b c counter r s is same rows =
    record { same = λ i. restored (same i) counter (rows i); before = subst (λ x. IsBefore x counter s) (sym same) (subst (IsBefore b counter) (sym rows) is) }

pub shown : (b c : Images) (counter : ℕ) (r s : Rows) (f : Rows → Rows) (v : Versions) → Wrote b c counter r s → s ≡ f r → ◌≡◌ {A = Versions} (record { committed = restored b counter r; current = r }) v
    → ◌≡◌ {A = Versions} (record { committed = restored c counter s; current = s }) (record { committed = v.committed; current = f v.current })
shown b c counter r s f v w is view i = record { committed = (w.same ∙ ap (λ x. x.committed) view) i; current = (is ∙ ap (λ x. f x.current) view) i }

-- ---- what the calls of the images answer

pub if_err : {A E P : Type 0} (r : Result A E) → P → OnErr r P
if_err (Ok x) p = tt
if_err (Err e) p = p

-- what holds of each Ok, where no Err can be
pub sure : {A E : Type 0} {P Q : Type 0} (r : Result A E) → OnOk r P → OnErr r Q → (Q → ⊥) → P
sure (Ok x) p q denied = p
sure (Err e) p q denied = absurd (denied q)

pub not_there : {A : Type 0} (x : Option A) → is_some x ≡ true → x ≡ None → ⊥
not_there None h e = absurd (true≢false (sym h))
not_there (Some a) h e = absurd (true≢false (sym h ∙ ap is_some e))

pub room_there : (b c : Images) (k : Key) → c ≡ maps.insert b k None → maps.has c k ≡ true
room_there b c k is = ap (λ x. maps.has x k) is ∙ ap is_some (maps.get-insert key_total b k None k ∙ ap (λ x. cond x (Some None) (maps.get b k)) (itself k))

-- room is made and filled
pub filled : (b c d : Images) (r : Rows) (k : Key) (o : Option Contents) → maps.has b k ≡ false → c ≡ maps.insert b k None → d ≡ maps.insert c k o → o ≡ row_at r k → d ≡ remembered b r k
filled b c d r k o missing room fill image =
    (λ i. fill i) ∙ (λ i. maps.insert (room i) k (image i))
    ∙ maps.same_map key_total key_exact _ _ (λ q.
    maps.get-insert key_total (maps.insert b k None) k (row_at r k) q ∙ ap (cond (eq_by_cmp key_cmp q k) (Some (row_at r k))) (maps.get-insert key_total b k None q)
    ∙ twice (eq_by_cmp key_cmp q k) (maps.get b q) ∙ sym (maps.get-insert key_total b k (row_at r k) q))
    ∙ ap (λ t. cond t b (maps.insert b k (row_at r k))) (sym missing)
  where
    twice : (t : Bool) (x : Option (Option Contents)) → cond t (Some (row_at r k)) (cond t (Some None) x) ≡ cond t (Some (row_at r k)) x
    twice true x = refl
    twice false x = refl

-- room that stays empty, where there is no row
pub room_only : (b c : Images) (r : Rows) (k : Key) → maps.has b k ≡ false → c ≡ maps.insert b k None → row_at r k ≡ None → c ≡ remembered b r k
room_only b c r k missing room none = room ∙ ap (maps.insert b k) (sym none) ∙ ap (λ t. cond t b (maps.insert b k (row_at r k))) (sym missing)

pub there_already : (b : Images) (r : Rows) (k : Key) → maps.has b k ≡ true → b ≡ remembered b r k
there_already b r k there = ap (λ t. cond t b (maps.insert b k (row_at r k))) (sym there)

-- room is made and given up
pub forgotten : (b c d : Images) (k : Key) → maps.has b k ≡ false → c ≡ maps.insert b k None → d ≡ maps.remove c k → d ≡ b
forgotten b c d k missing room gone =
    gone ∙ ap (λ x. maps.remove x k) room
    ∙ maps.same_map key_total key_exact _ _ (λ q.
    maps.get-remove key_total (maps.insert b k None) k q ∙ ap (cond (eq_by_cmp key_cmp q k) None) (maps.get-insert key_total b k None q)
    ∙ at q (eq_by_cmp key_cmp q k) refl)
  where
    none_of : (x : Option (Option Contents)) → is_some x ≡ false → x ≡ None
    none_of None e = refl
    none_of (Some a) e = absurd (true≢false e)

    at : (q : Key) (t : Bool) → eq_by_cmp key_cmp q k ≡ t → cond t None (cond t (Some None) (maps.get b q)) ≡ maps.get b q
    at q false e = refl
    at q true e = sym (none_of (maps.get b q) (ap (maps.has b) (tied q k e) ∙ missing))

pub given_there : (r : Rows) (k : Key) → IsRows r → is_some (row_at r k) ≡ true → is_given r k.1 ≡ true
given_there r k rows there = by (row_at r k) refl there
  where
    by : (o : Option Contents) → row_at r k ≡ o → is_some o ≡ true → is_given r k.1 ≡ true
    by None e h = cc
    by (Some x) e h = its_identifier r k.0 k.1 x rows e

-- ---- what was at a place

pub was_kept : (b : Images) (counter : ℕ) (r : Rows) (k : Key) (image o : Option Contents) → Some image ≡ maps.get b k → o ≡ image → o ≡ row_at (restored b counter r) k
was_kept b counter r k image o is e = e ∙ ap (λ f. back f (row_at r k)) is ∙ sym (restored_at b counter r k)

pub was_still : (b : Images) (counter : ℕ) (r : Rows) (k : Key) (o : Option Contents) → None ≡ maps.get b k → o ≡ row_at r k → o ≡ row_at (restored b counter r) k
was_still b counter r k o is e = e ∙ ap (λ f. back f (row_at r k)) is ∙ sym (restored_at b counter r k)
