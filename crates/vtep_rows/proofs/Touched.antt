-- What differs between rows and what they were is found at the places that were written.
use Rattle.std.proofs.Common.{◌≡◌, ℕ, ◌%◌, ◌^◌, ◌≤◌, ◌==◌, Bool, true, false, cond, not, T, ◌&&◌, List, [], ◌∷◌, ◌++◌, map, append_assoc, Option, Some, None, refl, sym, ap, ◌∙◌, arith}
use Rattle.std.specs.Bool.{Decides}
use Rattle.std.specs.List.{filter, filter_map, cons_option, list_all, list_any}
use Rattle.std.specs.Ordering.{eq_by_cmp}
use Rattle.std.specs.Cmp.{Equal-is, eq_by_cmp_equiv, first_so, second_so}
use Rattle.std.specs.Cmp.Lexicographic.{pointwise_decides}
use Rattle.std.specs.FinMap.{find, is_sorted}
use Rattle.std.specs.FinMap.Entries.{below_all, is_some-find}
use Rattle.vtep_base.specs.Maps as maps
use Rattle.vtep_base.specs.Maps.{Map}
use Rattle.ovsdb_values.specs.declared.datums.Datum.{Datum}
use Rattle.ovsdb_values.specs.Exact.{same_datum_exact}
use Rattle.ovsdb_values.specs.Sets.{same_datum}
use Rattle.vtep_schema.specs.declared.Table.{Table}
use Rattle.vtep_schema.specs.declared.Column.{Column}
use Rattle.vtep_schema.specs.Tables.{same_table, same_column}
use Rattle.vtep_schema.specs.Orders.{column_total}
use Rattle.vtep_rows.specs.declared.differences.RowChange.{RowChange}
use Rattle.vtep_rows.specs.Row.{Contents, same_row, same_fields}
use Rattle.vtep_rows.specs.Rows.{Key, key_cmp, Rows, row_at, row_id, is_given}
use Rattle.vtep_rows.specs.Orders.{key_total, key_exact}
use Rattle.vtep_rows.specs.Changes.{differ, change_at, changes}
use Rattle.vtep_rows.specs.Database.{Images, IsBefore, restored, changed_at, differing_in, image_fits, images_fit}
use Rattle.vtep_rows.proofs.Entries.{both, none_below, t_first, t_second}
use Rattle.vtep_rows.proofs.Kept.{same_table_itself, its_table, its_identifier, le_so, so_le}
use Rattle.vtep_rows.proofs.RowLaws.{same_column_exact}
use Rattle.vtep_rows.proofs.ChangeProofs.{keyed, sorted-keyed, find-keyed, values-keyed, wanted, wanted_at, absent, none_of}
use Rattle.vtep_rows.proofs.Restored.{back, itself, restored_at}

-- ---- a row does not differ from itself

field_exact : (a b : Column × Datum) → Decides (same_column a.0 b.0 && same_datum a.1 b.1) (a ≡ b)
field_exact a b = (
  λ h i. (same_column_exact a.0 b.0 (first_so (same_column a.0 b.0) (same_datum a.1 b.1) h) i, (same_datum_exact a.1 b.1).0 (second_so (same_column a.0 b.0) (same_datum a.1 b.1) h) i),
  λ e. both (same_column a.0 b.0) (same_datum a.1 b.1) (ap (λ x. same_column a.0 x.0) (sym e) ∙ (eq_by_cmp_equiv column_total).refl a.0) ((same_datum_exact a.1 b.1).1 (ap (λ x. x.1) e)),
)

same_row_itself : (a : Contents) → same_row a a ≡ true
same_row_itself a = both (same_table a.table a.table) (same_fields a.values a.values) (same_table_itself a.table) ((pointwise_decides field_exact a.values.list a.values.list).1 refl)

never_differs : (o : Option Contents) → differ o o ≡ false
never_differs None = refl
never_differs (Some a) = ap not (same_row_itself a)

-- ---- entries of a map, one by one

module _ {X : Type 0} where
  pub later_found : (k : Key) (x : X) (e : Key × X) (es : List (Key × X)) → T (is_sorted key_cmp (e ∷ es)) → find key_cmp k es ≡ Some x → find key_cmp k (e ∷ es) ≡ Some x
  later_found k x e es sorted h =
      elim (eq_by_cmp key_cmp k e.0) as (λ b. eq_by_cmp key_cmp k e.0 ≡ b → cond b (Some e.1) (find key_cmp k es) ≡ Some x) [
        | true ↦ λ tie.
            let none : find key_cmp k es ≡ None = none_below key_total k e.0 es ((Equal-is (key_cmp k e.0)).0 tie) (t_first (below_all key_cmp e.0 es) (is_sorted key_cmp es) sorted) in
            let clash : Some x ≡ None = sym h ∙ none in
            cc
        | false ↦ λ _. h
      ] refl

  pub first_found : (e : Key × X) (es : List (Key × X)) → find key_cmp e.0 (e ∷ es) ≡ Some e.1
  first_found e es = ap (λ b. cond b (Some e.1) (find key_cmp e.0 es)) (itself e.0)

  -- what agrees at each entry agrees over all
  by_entries : {U : Type 0} (f : Key × X → Option U) (g : Key → Option U) (es : List (Key × X)) → T (is_sorted key_cmp es) → ((k : Key) (x : X) → find key_cmp k es ≡ Some x → f (k, x) ≡ g k)
      → filter_map f es ≡ filter_map g (map (λ e. e.0) es)
  by_entries f g [] sorted h = refl
  by_entries f g (e ∷ es) sorted h =
      let here = h e.0 e.1 (first_found e es) in
      let rest = by_entries f g es (t_second (below_all key_cmp e.0 es) (is_sorted key_cmp es) sorted) (λ k x is. h k x (later_found k x e es sorted is)) in
      λ i. cons_option (here i) (rest i)

module _ (b : Images) (counter : ℕ) (r : Rows) where
  abbrev before : Rows
  before = restored b counter r

  -- a place that was not written is as it was
  pub untouched : (q : Key) → maps.get b q ≡ None → row_at before q ≡ row_at r q
  untouched q e = restored_at b counter r q ∙ ap (λ f. back f (row_at r q)) e

  pub touched : (q : Key) (o : Option Contents) → maps.get b q ≡ Some o → row_at before q ≡ o
  touched q o e = restored_at b counter r q ∙ ap (λ f. back f (row_at r q)) e

  no_change : (q : Key) → maps.get b q ≡ None → change_at before r q ≡ None
  no_change q e =
      ap (λ t. cond t (Some (record { table = q.0; id = q.1; old = row_at before q; new = row_at r q })) None) (ap (λ o. differ o (row_at r q)) (untouched q e) ∙ never_differs (row_at r q))

  at_image : (k : Key) (o : Option Contents) → maps.get b k ≡ Some o → changed_at r (k, o) ≡ change_at before r k
  at_image k o e = ap (λ x. cond (differ x (row_at r k)) (Some (record { table = k.0; id = k.1; old = x; new = row_at r k })) None) (sym (touched k o e))

  abbrev places : List Key
  places = map (λ e. e.0) b.list

  abbrev mine : Map key_cmp RowChange
  mine = record { list = keyed (change_at before r) places; sorted = sorted-keyed (change_at before r) b.list b.sorted }

  mine_at : (q : Key) → maps.get mine q ≡ change_at before r q
  mine_at q =
      find-keyed (change_at before r) places q
      ∙ absent (list_any (eq_by_cmp key_cmp q) places) (change_at before r q) (λ e. no_change q (none_of (maps.get b q) (is_some-find key_cmp q b.list ∙ e)))

  pub touched_changes : filter_map (changed_at r) b.list ≡ changes before r
  touched_changes =
      by_entries (changed_at r) (change_at before r) b.list b.sorted at_image
      ∙ sym (values-keyed (change_at before r) places)
      ∙ ap (λ m. map (λ e. e.1) m.list) (maps.same_map key_total key_exact mine (wanted before r) (λ q. mine_at q ∙ sym (wanted_at before r q)))
      ∙ values-keyed (change_at before r) (map (λ e. e.0) (maps.of_list {R = key_cmp} (before.rows.list ++ r.rows.list)).list)

-- ---- the loops over the images

pub one_change : (change : List RowChange) (o : Option RowChange) (more : List RowChange) → (change ++ cons_option o []) ++ more ≡ change ++ cons_option o more
one_change change None more = append_assoc change [] more
one_change change (Some c) more = append_assoc change (c ∷ []) more

pub one_differing : (t : Table) (r : Rows) (e : Key × Option Contents) (es : List (Key × Option Contents))
    → differing_in t r (e ∷ es) ≡ cond (same_table e.0.0 t && differ e.1 (row_at r e.0)) (e.0.1 ∷ differing_in t r es) (differing_in t r es)
one_differing t r e es =
    by (differ e.1 (row_at r e.0)) (same_table e.0.0 t)
  where
    change : RowChange
    change = record { table = e.0.0; id = e.0.1; old = e.1; new = row_at r e.0 }

    found : List RowChange
    found = filter_map (changed_at r) es

    one : (s : Bool) → map (λ c. c.id) (cond s (change ∷ filter (λ c. same_table c.table t) found) (filter (λ c. same_table c.table t) found)) ≡ cond (s && true) (e.0.1 ∷ differing_in t r es) (differing_in t r es)
    one true = refl
    one false = refl

    none : (s : Bool) → differing_in t r es ≡ cond (s && false) (e.0.1 ∷ differing_in t r es) (differing_in t r es)
    none true = refl
    none false = refl

    by : (d s : Bool) → map (λ c. c.id) (filter (λ c. same_table c.table t) (cons_option (cond d (Some change) None) found)) ≡ cond (same_table e.0.0 t && d) (e.0.1 ∷ differing_in t r es) (differing_in t r es)
    by false s = none (same_table e.0.0 t)
    by true s = one (same_table e.0.0 t)

-- ---- images may be put back

pub all_entries : {X : Type 0} (p : Key × X → Bool) (es : List (Key × X)) → T (is_sorted key_cmp es) → ((k : Key) (x : X) → find key_cmp k es ≡ Some x → p (k, x) ≡ true) → list_all p es ≡ true
all_entries p [] sorted h = refl
all_entries p (e ∷ es) sorted h =
    both (p e) _ (h e.0 e.1 (first_found e es))
    (all_entries p es (t_second (below_all key_cmp e.0 es) (is_sorted key_cmp es) sorted) (λ k x is. h k x (later_found k x e es sorted is)))

still_given : (r : Rows) (made counter : ℕ) (m : Map key_cmp Contents) (i : ℕ) → made ≡ r.made → counter ≤ r.counter → is_given (record { made = made; counter = counter; rows = m }) i ≡ true → is_given r i ≡ true
still_given r made counter m i same most h =
    let range = first_so _ _ h in
    let low : i % 2 ^ 62 ≤ counter = so_le _ _ (second_so _ _ range) in
    both _ _ (both _ _ (first_so _ _ range) (le_so (i % 2 ^ 62) r.counter (omega (arith, low, most)))) (ap (λ x. i == row_id x (i % 2 ^ 62)) (sym same) ∙ second_so _ _ h)

pub all_fit : (b : Images) (counter : ℕ) (r : Rows) → IsBefore b counter r → images_fit r b.list ≡ true
all_fit b counter r is = all_entries (λ e. image_fits r e.0 e.1) b.list b.sorted one
  where
    one : (k : Key) (o : Option Contents) → maps.get b k ≡ Some o → image_fits r k o ≡ true
    one k None e = refl
    one k (Some row) e =
        let there = touched b counter r k (Some row) e in
        both _ _ (ap (same_table k.0) (its_table (restored b counter r) k.0 k.1 row is.rows there) ∙ same_table_itself k.0)
        (still_given r r.made counter (restored b counter r).rows k.1 refl is.most (its_identifier (restored b counter r) k.0 k.1 row is.rows there))
