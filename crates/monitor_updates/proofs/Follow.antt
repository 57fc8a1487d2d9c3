-- A mirror that takes the updates from the rows that it holds to others holds those.
use Rattle.std.proofs.Common.{◌≡◌, Bool, true, false, cond, T, ◌&&◌, ◌||◌, not, ◌⊎◌, inl, inr, List, [], ◌∷◌, ◌++◌, map, Option, Some, None, is_some, option_map, Ok, refl, sym, ap, subst, ◌∙◌, true≢false, append_assoc, append-nil}
use Rattle.std.specs.Prelude.{ℕ, ◌<◌, ◌^◌, filter, option_and_then, unwrap_or, is_none}
use Rattle.std.specs.List.{AllByRecursion, list_any, filter_map, cons_option}
use Rattle.std.specs.List.Sorted.{IsStrictlySortedBy}
use Rattle.std.specs.BTreeMap.{is_at}
use Rattle.std.specs.BTreeSet.{insert_key}
use Rattle.std.specs.Ordering.{nat_cmp, match_ordering, is_eq, eq_by_cmp}
use Rattle.std.specs.declared.cmp.Ordering.{Ordering}
use Rattle.std.specs.declared.cmp.Ordering.TheVariants.{Less, Equal, Greater}
use Rattle.std.specs.Cmp.{Equal-is, eq_by_cmp_equiv}
use Rattle.std.specs.FinMap.{find, is_sorted, nat_cmp-IsAntisymmetric}
use Rattle.std.specs.FinMap.Entries.{below_all}
use Rattle.serde_json.specs.Data.{Data, object, Members, no_members, member}
use Rattle.vtep_base.specs.Reading.{Bytes}
use Rattle.vtep_base.specs.Maps as maps
use Rattle.vtep_base.specs.Maps.{Map}
use Rattle.vtep_base.specs.declared.shapes.Shape.{Shape}
use Rattle.vtep_base.specs.declared.shapes.Kind.TheVariants as kind
use Rattle.json_notation.specs.Computes.{texts}
use Rattle.json_notation.specs.Json.{to_members}
use Rattle.ovsdb_values.specs.declared.atoms.Atom.TheVariants.{Id}
use Rattle.ovsdb_values.specs.declared.datums.Datum.{Datum}
use Rattle.ovsdb_values.specs.declared.datums.Datum.TheVariants.{Set}
use Rattle.ovsdb_values.specs.Notation.{IsOf, datum_of, datum_json, id_of, id_text, first_of, as_set}
use Rattle.vtep_schema.specs.declared.Table.{Table}
use Rattle.vtep_schema.specs.Tables.{columns_of, tables, same_table, table_cmp, table_name}
use Rattle.vtep_schema.specs.Orders.{table_exact}
use Rattle.vtep_rows.specs.Row.{Contents}
use Rattle.vtep_rows.specs.Rows.{Key, key_cmp}
use Rattle.vtep_rows.specs.Orders.{key_total, key_exact}
use Rattle.vtep_rows.proofs.Entries.{none_below, t_first, t_second}
use Rattle.monitor_updates.specs.Noted as noted
use Rattle.monitor_updates.specs.Noted.{Cut, Update, cut, differing, listed, whole, wanted, changed}
use Rattle.monitor_updates.specs.Updates.{cut_json, update_json, in_table, table_member, updates_json}
use Rattle.monitor_updates.specs.OneRow.{told_by, is_any}
use Rattle.monitor_updates.specs.declared.row_updates.RowUpdate.{RowUpdate}
use Rattle.monitor_updates.specs.declared.row_updates.RowUpdate.TheVariants.{Insert, Delete, Modify}
use Rattle.monitor_updates.specs.Mirrored.{Mirrored, told_whole, told_some, told_update, told_entry, is_seen, with_id, spells_each_once, each_once, rows_from, told_table, tables_from, told_of, agrees, has_all, contradiction, applied, applied_one, taken, taken_by, unless}
use Rattle.monitor_updates.proofs.Views.{unchanged, same_columns}
use Rattle.monitor_updates.proofs.Known.{known, same_tables_of}
use Rattle.monitor_updates.proofs.Members.{name_cmp, name_total, name_exact, raw, placed, members_placed, all_placed, placed_has, placed_sorted, Gives, all_read, each_read}
use Rattle.monitor_updates.proofs.Among.{later_there, told_in, tables_in, table_named_in}
use Rattle.monitor_updates.proofs.RowsBack as row
use Rattle.monitor_updates.proofs.RowsBack.{Fits, Has, cut_has, differing_has}

abbrev pub ReadsBack : Type 0
ReadsBack = (shape : Shape) (d : Datum) → IsOf shape d → datum_of shape (datum_json d) ≡ Ok d

-- rows that are read from what is written of them
pub record Readable (m : Mirrored) : Type 0 where
  pub rows : (k : Key) (r : Contents) → maps.get m k ≡ Some r → Fits k.0 r
  pub ids : (k : Key) (r : Contents) → maps.get m k ≡ Some r → k.1 < 2 ^ 128

some_is : {A : Type 0} (x y : A) → Some x ≡ Some y → x ≡ y
some_is x y e = ap (λ o. unwrap_or o x) e

-- ---- identifiers

id_from : (u : ℕ) (o : Option ℕ) → as_set (first_of (option_map (λ a. a ∷ []) (first_of (option_map Id o) None)) None) ≡ Ok (Set (Id u ∷ [])) → o ≡ Some u
id_from u None e = cc
id_from u (Some v) e = cc

id_back : ReadsBack → (u : ℕ) → u < 2 ^ 128 → id_of (id_text u) ≡ Some u
unfolding IsStrictlySortedBy
id_back back u fits = id_from u (id_of (id_text u)) (back (record { key = kind.Id; value = None }) (Set (Id u ∷ [])) ((fits, tt), (tt, tt)))

-- ---- an update of a row

fresh_read : (t : Table) (new : Cut) → told_update t (update_json (noted.Insert new)) ≡ option_map Insert (told_whole t (cut_json new))
unfolding texts
fresh_read t new = refl

gone_read : (t : Table) (old : Cut) → told_update t (update_json (noted.Delete old)) ≡ option_map Delete (told_whole t (cut_json old))
unfolding texts
gone_read t old = refl

changed_read : (t : Table) (before new : Cut) → told_update t (update_json (noted.Modify before new)) ≡ option_and_then (λ values. option_map (Modify values) (told_whole t (cut_json new))) (told_some t (cut_json before))
unfolding texts
changed_read t before new = refl

-- what an update leaves of its row
abbrev after : RowUpdate → Option Contents
after (Insert new) = Some new
after (Delete old) = None
after (Modify before new) = Some new

abbrev reads : Table → Bytes × Data → Option (Key × RowUpdate)
reads t x = told_entry t x.0 x.1

-- ---- identifiers that stand once

not_put : (q id : ℕ) (seen : List ℕ) → is_eq (nat_cmp q id) ≡ false → list_any (is_at (nat_cmp q)) seen ≡ false → list_any (is_at (nat_cmp q)) (insert_key nat_cmp seen id) ≡ false
not_put q id [] other none = ap (λ b. b || false) other
not_put q id (x ∷ seen) other none = by (nat_cmp id x) (not_put q id seen other (later_none (is_eq (nat_cmp q x)) none))
  where
    later_none : (b : Bool) → (b || list_any (is_at (nat_cmp q)) seen) ≡ false → list_any (is_at (nat_cmp q)) seen ≡ false
    later_none false e = e
    later_none true e = absurd (true≢false e)

    first_none : (b : Bool) → (b || list_any (is_at (nat_cmp q)) seen) ≡ false → b ≡ false
    first_none false e = refl
    first_none true e = absurd (true≢false e)

    by : (o : Ordering) → list_any (is_at (nat_cmp q)) (insert_key nat_cmp seen id) ≡ false → list_any (is_at (nat_cmp q)) (match_ordering o (id ∷ x ∷ seen) (x ∷ seen) (x ∷ insert_key nat_cmp seen id)) ≡ false
    by Less rest = ap (λ b. b || (is_eq (nat_cmp q x) || list_any (is_at (nat_cmp q)) seen)) other ∙ none
    by Equal rest = none
    by Greater rest = (λ i. first_none (is_eq (nat_cmp q x)) none i || rest i)

-- an identifier whose text is still to come is not among those that are seen
abbrev Unseen : List ℕ → List (Bytes × Data) → Type 0
Unseen seen xs = (q : ℕ) → is_some (find name_cmp (id_text q) xs) ≡ true → list_any (is_at (nat_cmp q)) seen ≡ false

-- it agrees with the rows before, and leaves what the rows after have
record Leads (first : Bool) (m n : Mirrored) (e : Key × RowUpdate) : Type 0 where
  agreed : agrees first e.0.0 e.1 (maps.get m e.0) ≡ true
  leaves : after e.1 ≡ maps.get n e.0

record RowOf (first : Bool) (m n : Mirrored) (t : Table) (x : Bytes × Data) (e : Key × RowUpdate) : Type 0 where
  name : x.0 ≡ id_text e.0.1
  id : id_of x.0 ≡ Some e.0.1
  table : e.0.0 ≡ t
  leads : Leads first m n e

module _ (back : ReadsBack) (first : Bool) (m n : Mirrored) (before : Readable m) (now : Readable n) (starts : first ≡ true → (k : Key) → maps.get m k ≡ None) where
  abbrev Row : Table → Bytes × Data → Type 0
  Row t x = Gives (reads t) (RowOf first m n t) x

  is_row : (k : Key) (d : Data) (w : RowUpdate) → k.1 < 2 ^ 128 → told_update k.0 d ≡ Some w → agrees first k.0 w (maps.get m k) ≡ true → after w ≡ maps.get n k → Row k.0 (id_text k.1, d)
  is_row k d w fits read agreed leaves = record {
    item = (k, w);
    is = ap (option_and_then (λ id. option_map (λ u. ((k.0, id), u)) (told_update k.0 d))) (id_back back k.1 fits) ∙ ap (option_map (λ u. (k, u))) read;
    good = record { name = refl; id = id_back back k.1 fits; table = refl; leads = record { agreed = agreed; leaves = leaves } };
  }

  later : (k : Key) (r : Contents) → maps.get m k ≡ Some r → not first ≡ true
  later k r e = by first starts
    where
      by : (b : Bool) → (b ≡ true → (q : Key) → maps.get m q ≡ None) → not b ≡ true
      by false none = refl
      by true none = let gone : Some r ≡ None = sym e ∙ none refl k in cc

  same_all : (t : Table) (r : Contents) → has_all t r r ≡ true
  same_all t r = ap (λ es. not (is_any es)) (same_columns (columns_of t) r)

  came : (k : Key) (s : Contents) → maps.get m k ≡ None → maps.get n k ≡ Some s → Row k.0 (id_text k.1, update_json (noted.Insert (cut (columns_of k.0) s)))
  came k s old new =
      is_row k (update_json (noted.Insert (cut (columns_of k.0) s))) (Insert s) (now.ids k s new)
      (fresh_read k.0 (cut (columns_of k.0) s) ∙ ap (option_map Insert) (row.whole_back back k.0 s (now.rows k s new)))
      (ap is_none old) (sym new)

  went : (k : Key) (r : Contents) → maps.get m k ≡ Some r → maps.get n k ≡ None → Row k.0 (id_text k.1, update_json (noted.Delete (cut (columns_of k.0) r)))
  went k r old new =
      is_row k (update_json (noted.Delete (cut (columns_of k.0) r))) (Delete r) (before.ids k r old)
      (gone_read k.0 (cut (columns_of k.0) r) ∙ ap (option_map Delete) (row.whole_back back k.0 r (before.rows k r old)))
      (ap (agrees first k.0 (Delete r)) old ∙ (λ i. later k r old i && same_all k.0 r i)) (sym new)

  became : (k : Key) (r s : Contents) (e : _) (es : Cut) → maps.get m k ≡ Some r → maps.get n k ≡ Some s → AllByRecursion (Has k.0 r) (e ∷ es) → Row k.0 (id_text k.1, update_json (noted.Modify (e ∷ es) (cut (columns_of k.0) s)))
  became k r s e es old new has =
      let fits : Fits k.0 r = before.rows k r old in
      let values : List _ = row.listed back k.0 r fits (e ∷ es) in
      is_row k (update_json (noted.Modify (e ∷ es) (cut (columns_of k.0) s))) (Modify values s) (now.ids k s new)
      (changed_read k.0 (e ∷ es) (cut (columns_of k.0) s)
      ∙ ap (option_and_then (λ vs. option_map (Modify vs) (told_whole k.0 (cut_json (cut (columns_of k.0) s))))) (row.some_back back k.0 r fits e es has)
      ∙ ap (option_map (Modify values)) (row.whole_back back k.0 s (now.rows k s new)))
      (ap (agrees first k.0 (Modify values s)) old ∙ (λ i. later k r old i && row.listed_is back k.0 r fits (e ∷ es) has i)) (sym new)

  -- the update at a key is read as one that leads from the rows before to the rows after
  told_row : (k : Key) (u : Update) → told_by (Some (whole k.0)) (maps.get m k) (maps.get n k) ≡ Some u → Row k.0 (id_text k.1, update_json u)
  told_row k u e = by (maps.get m k) (maps.get n k) refl refl e
    where
      by : (old new : Option Contents) → maps.get m k ≡ old → maps.get n k ≡ new → told_by (Some (whole k.0)) old new ≡ Some u → Row k.0 (id_text k.1, update_json u)
      by None None old new is = cc
      by None (Some s) old new is = subst (λ v. Row k.0 (id_text k.1, update_json v)) (some_is _ u is) (came k s old new)
      by (Some r) None old new is = subst (λ v. Row k.0 (id_text k.1, update_json v)) (some_is _ u is) (went k r old new)
      by (Some r) (Some s) old new is =
          by_columns (differing (cut (columns_of k.0) r) (cut (columns_of k.0) s)) (differing_has k.0 r _ (cut (columns_of k.0) s) (cut_has k.0 r (before.rows k r old))) is
        where
          by_columns : (es : Cut) → AllByRecursion (Has k.0 r) es → option_and_then (wanted (Some (whole k.0))) (changed es (cut (columns_of k.0) s)) ≡ Some u → Row k.0 (id_text k.1, update_json u)
          by_columns [] has same = cc
          by_columns (c ∷ es) has same = subst (λ v. Row k.0 (id_text k.1, update_json v)) (some_is _ u same) (became k r s c es old new has)

  -- where nothing is told the rows are the same
  untold : (k : Key) → told_by (Some (whole k.0)) (maps.get m k) (maps.get n k) ≡ None → maps.get m k ≡ maps.get n k
  untold k e = by (maps.get m k) (maps.get n k) refl refl e
    where
      by : (old new : Option Contents) → maps.get m k ≡ old → maps.get n k ≡ new → told_by (Some (whole k.0)) old new ≡ None → old ≡ new
      by None None old new is = refl
      by None (Some s) old new is = cc
      by (Some r) None old new is = cc
      by (Some r) (Some s) old new is =
          sym (row.whole_back back k.0 r (before.rows k r old))
          ∙ ap (λ es. told_whole k.0 (cut_json es)) (unchanged (columns_of k.0) r s (by_columns (differing (cut (columns_of k.0) r) (cut (columns_of k.0) s)) is))
          ∙ row.whole_back back k.0 s (now.rows k s new)
        where
          by_columns : (es : Cut) → option_and_then (wanted (Some (whole k.0))) (changed es (cut (columns_of k.0) s)) ≡ None → es ≡ []
          by_columns [] same = refl
          by_columns (c ∷ es) same = cc

  -- ---- the rows of a table

  module _ (f : Key → Option Update) (tells : (k : Key) → f k ≡ told_by (Some (whole k.0)) (maps.get m k) (maps.get n k)) where
    one_in : (P : Bytes × Data → Type 0) (t : Table) (k : Key) (u : Update) (us : List (Key × Update)) → AllByRecursion P (in_table t us) → (same_table k.0 t ≡ true → P (id_text k.1, update_json u)) → AllByRecursion P (in_table t ((k, u) ∷ us))
    one_in P t k u us rest here = by (same_table k.0 t) here
      where
        by : (b : Bool) → (b ≡ true → P (id_text k.1, update_json u)) → AllByRecursion P (map (λ (v : Key × Update). (id_text v.0.1, update_json v.1)) (cond b ((k, u) ∷ filter (λ (v : Key × Update). same_table v.0.0 t) us) (filter (λ (v : Key × Update). same_table v.0.0 t) us)))
        by true is = (is refl, rest)
        by false is = rest

    all_in : (t : Table) (ks : List Key) → AllByRecursion (Row t) (in_table t (listed f ks))
    all_in t [] = tt
    all_in t (k ∷ ks) = by (f k) (sym (tells k)) (all_in t ks)
      where
        by : (o : Option Update) → told_by (Some (whole k.0)) (maps.get m k) (maps.get n k) ≡ o → AllByRecursion (Row t) (in_table t (listed f ks)) → AllByRecursion (Row t) (in_table t (cons_option (option_map (λ u. (k, u)) o) (listed f ks)))
        by None e rest = rest
        by (Some u) e rest = one_in (Row t) t k u (listed f ks) rest (λ is. subst (λ s. Row s (id_text k.1, update_json u)) (table_exact k.0 t ((Equal-is (table_cmp k.0 t)).0 is)) (told_row k u e))

    module _ (ks : List Key) where
      abbrev placed_in : Table → List (Bytes × Data)
      placed_in t = placed (in_table t (listed f ks))

      abbrev rows_of : Table → List (Key × RowUpdate)
      rows_of t = filter_map (reads t) (placed_in t)

      all_rows : (t : Table) → AllByRecursion (Row t) (placed_in t)
      all_rows t = all_placed (Row t) (in_table t (listed f ks)) (all_in t ks)

      once : (t : Table) (xs : List (Bytes × Data)) → T (is_sorted name_cmp xs) → AllByRecursion (Row t) xs → (seen : List ℕ) → Unseen seen xs → spells_each_once seen (raw xs) ≡ true
      once t [] sorted all seen unseen = refl
      once t (x ∷ xs) sorted all seen unseen =
          ap (λ o. not (is_seen seen o) && spells_each_once (with_id seen o) (raw xs)) all.0.good.id
          ∙ ap (λ b. not b && spells_each_once (insert_key nat_cmp seen all.0.item.0.1) (raw xs)) (unseen all.0.item.0.1 here)
          ∙ once t xs (t_second (below_all name_cmp x.0 xs) (is_sorted name_cmp xs) sorted) all.1 (insert_key nat_cmp seen all.0.item.0.1) still
        where
          here : is_some (find name_cmp (id_text all.0.item.0.1) (x ∷ xs)) ≡ true
          here = ap (λ n. is_some (find name_cmp n (x ∷ xs))) (sym all.0.good.name) ∙ ap (λ b. is_some (cond b (Some x.1) (find name_cmp x.0 xs))) ((eq_by_cmp_equiv name_total).refl x.0)

          apart : (q : ℕ) → is_some (find name_cmp (id_text q) xs) ≡ true → (b : Bool) → is_eq (nat_cmp q all.0.item.0.1) ≡ b → b ≡ false
          apart q there false e = refl
          apart q there true e =
              let same : q ≡ all.0.item.0.1 = nat_cmp-IsAntisymmetric q all.0.item.0.1 ((Equal-is (nat_cmp q all.0.item.0.1)).0 e) in
              absurd (true≢false (sym there ∙ ap is_some (ap (λ n. find name_cmp n xs) (ap id_text same ∙ sym all.0.good.name) ∙ none_below name_total x.0 x.0 xs ((Equal-is (name_cmp x.0 x.0)).0 ((eq_by_cmp_equiv name_total).refl x.0)) (t_first (below_all name_cmp x.0 xs) (is_sorted name_cmp xs) sorted))))

          still : Unseen (insert_key nat_cmp seen all.0.item.0.1) xs
          still q there = not_put q all.0.item.0.1 seen (apart q there (is_eq (nat_cmp q all.0.item.0.1)) refl) (unseen q (later_there (eq_by_cmp name_cmp (id_text q) x.0) x.1 (find name_cmp (id_text q) xs) there))

      all_once : (t : Table) → spells_each_once [] (to_members (in_table t (listed f ks))) ≡ true
      all_once t = ap (spells_each_once []) (members_placed (in_table t (listed f ks))) ∙ once t (placed_in t) (placed_sorted (in_table t (listed f ks))) (all_rows t) [] (λ q there. refl)

      rows_read : (t : Table) (done : List (Key × RowUpdate)) → rows_from t done (to_members (in_table t (listed f ks))) ≡ Some (done ++ rows_of t)
      rows_read t done = ap (rows_from t done) (members_placed (in_table t (listed f ks))) ∙ each_read (reads t) (RowOf first m n t) (rows_from t) (λ d. refl) (λ d x ms. refl) done (placed_in t) (all_rows t)

      rows_lead : (t : Table) → AllByRecursion (Leads first m n) (rows_of t)
      rows_lead t = all_read (reads t) (RowOf first m n t) (Leads first m n) (λ x e r. r.leads) (placed_in t) (all_rows t)

      -- ---- the tables

      record TableOf (x : Bytes × Data) : Type 0 where
        table : Table
        name : x.0 ≡ table_name table
        rows : x.1 ≡ object (to_members (in_table table (listed f ks)))

      all_tables : (ts : List Table) → AllByRecursion TableOf (tables_in (listed f ks) ts)
      all_tables [] = tt
      all_tables (t ∷ ts) = by (to_members (in_table t (listed f ks))) refl (all_tables ts)
        where
          by : (ms : Members) → to_members (in_table t (listed f ks)) ≡ ms → AllByRecursion TableOf (tables_in (listed f ks) ts) → AllByRecursion TableOf (cons_option (table_member t ms) (tables_in (listed f ks) ts))
          by no_members e rest = rest
          by (member id d ms) e rest = (record { table = t; name = refl; rows = ap object (sym e) }, rest)

      abbrev all_of : (xs : List (Bytes × Data)) → AllByRecursion TableOf xs → List (Key × RowUpdate)
      all_of [] all = []
      all_of (x ∷ xs) all = rows_of all.0.table ++ all_of xs all.1

      table_read : (x : Bytes × Data) (is : TableOf x) (done : List (Key × RowUpdate)) → told_table done x.0 x.1 ≡ Some (done ++ rows_of is.table)
      table_read x is done =
          (λ i. told_table done (is.name i) (is.rows i))
          ∙ ap (option_and_then (λ t. option_and_then (rows_from t done) (each_once (to_members (in_table is.table (listed f ks)))))) (known is.table).named
          ∙ ap (λ b. option_and_then (rows_from is.table done) (cond b (Some (to_members (in_table is.table (listed f ks)))) None)) (all_once is.table)
          ∙ rows_read is.table done

      tables_read : (done : List (Key × RowUpdate)) (xs : List (Bytes × Data)) (all : AllByRecursion TableOf xs) → tables_from done (raw xs) ≡ Some (done ++ all_of xs all)
      tables_read done [] all = ap Some (sym (append-nil done))
      tables_read done (x ∷ xs) all =
          ap (option_and_then (λ us. tables_from us (raw xs))) (table_read x all.0 done)
          ∙ tables_read (done ++ rows_of all.0.table) xs all.1
          ∙ ap Some (append_assoc done (rows_of all.0.table) (all_of xs all.1))

      all_append : (es fs : List (Key × RowUpdate)) → AllByRecursion (Leads first m n) es → AllByRecursion (Leads first m n) fs → AllByRecursion (Leads first m n) (es ++ fs)
      all_append [] fs h g = g
      all_append (e ∷ es) fs h g = (h.0, all_append es fs h.1 g)

      all_lead : (xs : List (Bytes × Data)) (all : AllByRecursion TableOf xs) → AllByRecursion (Leads first m n) (all_of xs all)
      all_lead [] all = tt
      all_lead (x ∷ xs) all = all_append (rows_of all.0.table) (all_of xs all.1) (rows_lead all.0.table) (all_lead xs all.1)

      -- ---- each row that is told is read

      row_there : (k : Key) (t : Table) (xs : List (Bytes × Data)) → k.1 < 2 ^ 128 → t ≡ k.0 → AllByRecursion (Row t) xs → is_some (find name_cmp (id_text k.1) xs) ≡ true → is_some (find key_cmp k (filter_map (reads t) xs)) ≡ true
      row_there k t [] fits is all there = absurd (true≢false (sym there))
      row_there k t (x ∷ xs) fits is all there =
          subst (λ o. is_some (find key_cmp k (cons_option o (filter_map (reads t) xs))) ≡ true) (sym all.0.is)
          (by (eq_by_cmp name_cmp (id_text k.1) x.0) refl there (row_there k t xs fits is all.1))
        where
          by : (b : Bool) → eq_by_cmp name_cmp (id_text k.1) x.0 ≡ b → is_some (cond b (Some x.1) (find name_cmp (id_text k.1) xs)) ≡ true → (is_some (find name_cmp (id_text k.1) xs) ≡ true → is_some (find key_cmp k (filter_map (reads t) xs)) ≡ true)
              → is_some (cond (eq_by_cmp key_cmp k all.0.item.0) (Some all.0.item.1) (find key_cmp k (filter_map (reads t) xs))) ≡ true
          by false same at rest = later_there (eq_by_cmp key_cmp k all.0.item.0) all.0.item.1 (find key_cmp k (filter_map (reads t) xs)) (rest at)
          by true same at rest =
              let id : k.1 ≡ all.0.item.0.1 = some_is k.1 all.0.item.0.1 (sym (id_back back k.1 fits) ∙ ap id_of (name_exact (id_text k.1) x.0 ((Equal-is (name_cmp (id_text k.1) x.0)).0 same)) ∙ all.0.good.id) in
              let key : k ≡ all.0.item.0 = λ i. ((sym is ∙ sym all.0.good.table) i, id i) in
              ap (λ b. is_some (cond b (Some all.0.item.1) (find key_cmp k (filter_map (reads t) xs)))) (subst (λ q. eq_by_cmp key_cmp k q ≡ true) key ((eq_by_cmp_equiv key_total).refl k))

      in_front : (k : Key) (es fs : List (Key × RowUpdate)) → is_some (find key_cmp k es) ≡ true → is_some (find key_cmp k (es ++ fs)) ≡ true
      in_front k [] fs h = absurd (true≢false (sym h))
      in_front k (e ∷ es) fs h = by (eq_by_cmp key_cmp k e.0) h (in_front k es fs)
        where
          by : (b : Bool) → is_some (cond b (Some e.1) (find key_cmp k es)) ≡ true → (is_some (find key_cmp k es) ≡ true → is_some (find key_cmp k (es ++ fs)) ≡ true) → is_some (cond b (Some e.1) (find key_cmp k (es ++ fs))) ≡ true
          by true at rest = refl
          by false at rest = rest at

      behind : (k : Key) (es fs : List (Key × RowUpdate)) → is_some (find key_cmp k fs) ≡ true → is_some (find key_cmp k (es ++ fs)) ≡ true
      behind k [] fs h = h
      behind k (e ∷ es) fs h = later_there (eq_by_cmp key_cmp k e.0) e.1 (find key_cmp k (es ++ fs)) (behind k es fs h)

      rows_there : (k : Key) (xs : List (Bytes × Data)) (all : AllByRecursion TableOf xs) → is_some (find name_cmp (table_name k.0) xs) ≡ true → ((t : Table) → t ≡ k.0 → is_some (find key_cmp k (rows_of t)) ≡ true) → is_some (find key_cmp k (all_of xs all)) ≡ true
      rows_there k [] all named there = absurd (true≢false (sym named))
      rows_there k (x ∷ xs) all named there = by (eq_by_cmp name_cmp (table_name k.0) x.0) refl named (λ more. rows_there k xs all.1 more there)
        where
          by : (b : Bool) → eq_by_cmp name_cmp (table_name k.0) x.0 ≡ b → is_some (cond b (Some x.1) (find name_cmp (table_name k.0) xs)) ≡ true → (is_some (find name_cmp (table_name k.0) xs) ≡ true → is_some (find key_cmp k (all_of xs all.1)) ≡ true)
              → is_some (find key_cmp k (rows_of all.0.table ++ all_of xs all.1)) ≡ true
          by true same at rest =
              in_front k (rows_of all.0.table) (all_of xs all.1) (there all.0.table (same_tables_of all.0.table k.0 (sym all.0.name ∙ sym (name_exact (table_name k.0) x.0 ((Equal-is (name_cmp (table_name k.0) x.0)).0 same)))))
          by false same at rest = behind k (rows_of all.0.table) (all_of xs all.1) (rest at)

      -- ---- all that is told

      abbrev entries : List (Key × RowUpdate)
      entries = all_of (placed (tables_in (listed f ks) tables)) (all_placed TableOf (tables_in (listed f ks) tables) (all_tables tables))

      read_all : told_of (updates_json (listed f ks)) ≡ Some entries
      read_all = ap (tables_from []) (members_placed (tables_in (listed f ks) tables)) ∙ tables_read [] (placed (tables_in (listed f ks) tables)) (all_placed TableOf (tables_in (listed f ks) tables) (all_tables tables))

      entries_lead : AllByRecursion (Leads first m n) entries
      entries_lead = all_lead (placed (tables_in (listed f ks) tables)) (all_placed TableOf (tables_in (listed f ks) tables) (all_tables tables))

      entry_there : (k : Key) (u : Update) → k.1 < 2 ^ 128 → find key_cmp k (listed f ks) ≡ Some u → is_some (find key_cmp k entries) ≡ true
      entry_there k u fits e =
          rows_there k (placed (tables_in (listed f ks) tables)) (all_placed TableOf (tables_in (listed f ks) tables) (all_tables tables))
          (placed_has (tables_in (listed f ks) tables) (table_name k.0) ∙ table_named_in (listed f ks) k tables (known k.0).listed (told_in k u (listed f ks) e))
          (λ t is. row_there k t (placed_in t) fits is (all_rows t) (placed_has (in_table t (listed f ks)) (id_text k.1) ∙ subst (λ s. is_some (find name_cmp (id_text k.1) (in_table s (listed f ks))) ≡ true) (sym is) (told_in k u (listed f ks) e)))

  -- ---- what they do

  no_contradiction : (es : List (Key × RowUpdate)) → AllByRecursion (Leads first m n) es → contradiction first m es ≡ None
  no_contradiction [] all = refl
  no_contradiction (e ∷ es) all = ap (λ b. cond b (contradiction first m es) (Some e.0)) all.0.agreed ∙ no_contradiction es all.1

  get-applied_one : (x : Mirrored) (k : Key) (w : RowUpdate) (q : Key) → maps.get (applied_one x k w) q ≡ cond (eq_by_cmp key_cmp q k) (after w) (maps.get x q)
  get-applied_one x k (Insert new) q = maps.get-insert key_total x k new q
  get-applied_one x k (Delete old) q = maps.get-remove key_total x k q
  get-applied_one x k (Modify values new) q = maps.get-insert key_total x k new q

  get-applied : (x : Mirrored) (es : List (Key × RowUpdate)) → AllByRecursion (Leads first m n) es → (q : Key) → (is_some (find key_cmp q es) ≡ true) ⊎ (maps.get x q ≡ maps.get n q) → maps.get (applied x es) q ≡ maps.get n q
  get-applied x [] all q (inl there) = absurd (true≢false (sym there))
  get-applied x [] all q (inr same) = same
  get-applied x (e ∷ es) all q there = get-applied (applied_one x e.0 e.1) es all.1 q (by (eq_by_cmp key_cmp q e.0) refl there)
    where
      by : (b : Bool) → eq_by_cmp key_cmp q e.0 ≡ b → (is_some (cond b (Some e.1) (find key_cmp q es)) ≡ true) ⊎ (maps.get x q ≡ maps.get n q) → (is_some (find key_cmp q es) ≡ true) ⊎ (maps.get (applied_one x e.0 e.1) q ≡ maps.get n q)
      by true is at = inr (get-applied_one x e.0 e.1 q ∙ ap (λ b. cond b (after e.1) (maps.get x q)) is ∙ all.0.leaves ∙ ap (maps.get n) (sym (key_exact q e.0 ((Equal-is (key_cmp q e.0)).0 is))))
      by false is (inl at) = inl at
      by false is (inr same) = inr (get-applied_one x e.0 e.1 q ∙ ap (λ b. cond b (after e.1) (maps.get x q)) is ∙ same)

  -- a mirror that takes all that is told holds the rows after
  pub follows : (f : Key → Option Update) (ks : List Key) → ((k : Key) → f k ≡ told_by (Some (whole k.0)) (maps.get m k) (maps.get n k)) → ((k : Key) → find key_cmp k (listed f ks) ≡ f k) → taken first m (updates_json (listed f ks)) ≡ Ok n
  follows f ks tells lists =
      ap (taken_by first m) (read_all f tells ks)
      ∙ ap (λ o. unless o (applied m (entries f tells ks))) (no_contradiction (entries f tells ks) (entries_lead f tells ks))
      ∙ ap Ok (maps.same_map key_total key_exact (applied m (entries f tells ks)) n (λ q. get-applied m (entries f tells ks) (entries_lead f tells ks) q (at_key q)))
    where
      fits_of : (k : Key) (u : Update) → f k ≡ Some u → k.1 < 2 ^ 128
      fits_of k u e = by (maps.get m k) (maps.get n k) refl refl (sym (tells k) ∙ e)
        where
          by : (old new : Option Contents) → maps.get m k ≡ old → maps.get n k ≡ new → told_by (Some (whole k.0)) old new ≡ Some u → k.1 < 2 ^ 128
          by (Some r) new old-is new-is told = before.ids k r old-is
          by None (Some s) old-is new-is told = now.ids k s new-is
          by None None old-is new-is told = cc

      at_key : (q : Key) → (is_some (find key_cmp q (entries f tells ks)) ≡ true) ⊎ (maps.get m q ≡ maps.get n q)
      at_key q = by (f q) refl
        where
          by : (o : Option Update) → f q ≡ o → (is_some (find key_cmp q (entries f tells ks)) ≡ true) ⊎ (maps.get m q ≡ maps.get n q)
          by None e = inr (untold q (sym (tells q) ∙ e))
          by (Some u) e = inl (entry_there f tells ks q u (fits_of q u e) (lists q ∙ e))
