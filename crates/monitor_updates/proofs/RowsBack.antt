-- What is written of a row is read as the row.
use Rattle.std.proofs.Common.{◌≡◌, Bool, true, false, cond, ◌&&◌, ◌||◌, ◌⊎◌, inl, inr, T, List, [], ◌∷◌, Option, Some, None, is_some, Ok, refl, sym, ap, subst, ◌∙◌, true≢false}
use Rattle.std.specs.Prelude.{option_and_then, unwrap_or}
use Rattle.std.specs.List.{AllByRecursion, list_all, list_any, filter_map, cons_option}
use Rattle.std.specs.Ordering.{eq_by_cmp}
use Rattle.std.specs.Cmp.{first_so, second_so, Equal-is, eq_by_cmp_equiv}
use Rattle.std.specs.FinMap.{find, is_sorted}
use Rattle.std.specs.FinMap.Entries.{below_all}
use Rattle.serde_json.specs.Data.{Data}
use Rattle.vtep_base.specs.Reading.{Bytes}
use Rattle.vtep_base.specs.Maps as maps
use Rattle.vtep_base.specs.Maps.{Map}
use Rattle.vtep_base.specs.declared.shapes.Shape.{Shape}
use Rattle.ovsdb_values.specs.declared.datums.Datum.{Datum}
use Rattle.ovsdb_values.specs.declared.datums.Datum.TheVariants.{Set}
use Rattle.ovsdb_values.specs.Sets.{same_datum}
use Rattle.ovsdb_values.specs.Exact.{same_datum_exact}
use Rattle.ovsdb_values.specs.Notation.{IsOf, datum_of, datum_json}
use Rattle.vtep_schema.specs.declared.Table.{Table}
use Rattle.vtep_schema.specs.declared.Column.{Column}
use Rattle.vtep_schema.specs.Tables.{columns_of, belongs, column_name, column_cmp, shape_of, same_column}
use Rattle.vtep_schema.specs.Orders.{column_total, column_exact}
use Rattle.vtep_rows.specs.Row as row
use Rattle.vtep_rows.specs.Row.{Contents, allowed, is_row, row_of, row_if, value_at, put_all}
use Rattle.vtep_rows.proofs.Entries.{found, none_below, t_first, t_second}
use Rattle.vtep_rows.proofs.RowLaws.{value_allowed, has_column, same_column_exact}
use Rattle.monitor_updates.specs.Noted.{Cut, cut, differing}
use Rattle.monitor_updates.specs.Updates.{members_json, cut_json}
use Rattle.monitor_updates.specs.Mirrored.{told_value, values_from, told_values, told_whole, told_some, at_least_one, has_values, is_value}
use Rattle.monitor_updates.proofs.Known.{known, value_back, same_columns_of}
use Rattle.monitor_updates.proofs.Members.{name_cmp, name_total, name_exact, placed, members_placed, all_placed, placed_sorted, placed_has, Gives, all_read, each_read}

-- a row of its table whose values are read from what is written of them
pub record Fits (t : Table) (r : Contents) : Type 0 where
  pub table : r.table ≡ t
  pub row : is_row r ≡ true
  pub forms : (c : Column) (d : Datum) → maps.get r.values c ≡ Some d → IsOf (shape_of c) d

-- a value that the row has, at a column of the table
pub record Has (t : Table) (r : Contents) (e : Column × Datum) : Type 0 where
  pub inside : belongs e.0 t ≡ true
  pub held : maps.get r.values e.0 ≡ Some e.1

is_there : (o : Option Datum) (d : Datum) → is_some o ≡ true → o ≡ Some (unwrap_or o d)
is_there None d e = cc
is_there (Some x) d e = refl

all_cut : (t : Table) (r : Contents) → Fits t r → (cs : List Column) → list_all (λ c. belongs c t) cs ≡ true → AllByRecursion (Has t r) (cut cs r)
all_cut t r fits [] inside = tt
all_cut t r fits (c ∷ cs) inside =
    let is : belongs c t ≡ true = first_so (belongs c t) (list_all (λ x. belongs x t) cs) inside in
    let has : maps.has r.values c ≡ true = has_column r c fits.row (ap (belongs c) fits.table ∙ is) in
    (record { inside = is; held = is_there (maps.get r.values c) (Set []) has }, all_cut t r fits cs (second_so (belongs c t) (list_all (λ x. belongs x t) cs) inside))

pub cut_has : (t : Table) (r : Contents) → Fits t r → AllByRecursion (Has t r) (cut (columns_of t) r)
cut_has t r fits = all_cut t r fits (columns_of t) (known t).inside

pub differing_has : (t : Table) (r : Contents) (old new : Cut) → AllByRecursion (Has t r) old → AllByRecursion (Has t r) (differing old new)
differing_has t r [] new all = tt
differing_has t r (e ∷ old) [] all = tt
differing_has t r (e ∷ old) (f ∷ new) all = by (same_datum e.1 f.1) (differing_has t r old new all.1)
  where
    by : (b : Bool) → AllByRecursion (Has t r) (differing old new) → AllByRecursion (Has t r) (cond b (differing old new) (e ∷ differing old new))
    by true rest = rest
    by false rest = (all.0, rest)

-- ---- values

-- how a value is read from a member
abbrev reads : Table → Bytes × Data → Option (Column × Datum)
reads t x = told_value t x.0 x.1

-- it is one of the row, at the column of the member's name
pub record IsRead (t : Table) (r : Contents) (x : Bytes × Data) (e : Column × Datum) : Type 0 where
  pub name : x.0 ≡ column_name e.0
  pub has : Has t r e

module _ (back : (shape : Shape) (d : Datum) → IsOf shape d → datum_of shape (datum_json d) ≡ Ok d) (t : Table) (r : Contents) (fits : Fits t r) where
  one_told : (e : Column × Datum) → Has t r e → Gives (reads t) (IsRead t r) (column_name e.0, datum_json e.1)
  one_told e has = record {
    item = e;
    is = value_back back t e.0 e.1 has.inside (value_allowed r e.0 e.1 fits.row has.held) (fits.forms e.0 e.1 has.held);
    good = record { name = refl; has = has };
  }

  all_told : (es : Cut) → AllByRecursion (Has t r) es → AllByRecursion (Gives (reads t) (IsRead t r)) (members_json es)
  all_told [] all = tt
  all_told (e ∷ es) all = (one_told e all.0, all_told es all.1)

  -- what is read of the members of values
  abbrev pub listed : Cut → List (Column × Datum)
  listed es = filter_map (reads t) (placed (members_json es))

  placed_told : (es : Cut) → AllByRecursion (Has t r) es → AllByRecursion (Gives (reads t) (IsRead t r)) (placed (members_json es))
  placed_told es all = all_placed (Gives (reads t) (IsRead t r)) (members_json es) (all_told es all)

  pub told_back : (es : Cut) → AllByRecursion (Has t r) es → told_values t (cut_json es) ≡ Some (listed es)
  told_back es all = ap (values_from t []) (members_placed (members_json es)) ∙ each_read (reads t) (IsRead t r) (values_from t) (λ done. refl) (λ done x ms. refl) [] (placed (members_json es)) (placed_told es all)

  pub listed_has : (es : Cut) → AllByRecursion (Has t r) es → AllByRecursion (Has t r) (listed es)
  listed_has es all = all_read (reads t) (IsRead t r) (Has t r) (λ x e told. told.has) (placed (members_json es)) (placed_told es all)

  -- ---- the row of them

  -- no column of the table whose name is still to come is there
  abbrev Clean : Map column_cmp Datum → List (Bytes × Data) → Type 0
  Clean vals xs = (c : Column) → belongs c t ≡ true → is_some (find name_cmp (column_name c) xs) ≡ true → maps.has vals c ≡ false

  later : (b : Bool) (x : Data) (o : Option Data) → is_some o ≡ true → is_some (cond b (Some x) o) ≡ true
  later true x o h = refl
  later false x o h = h

  not_at : (vals : Map column_cmp Datum) (c q : Column) (d : Datum) → (eq_by_cmp column_cmp q c ≡ true → ⊥) → maps.has vals q ≡ false → maps.has (maps.insert vals c d) q ≡ false
  not_at vals c q d other h = ap is_some (maps.get-insert column_total vals c d q) ∙ by (eq_by_cmp column_cmp q c) other
    where
      by : (b : Bool) → (b ≡ true → ⊥) → is_some (cond b (Some d) (maps.get vals q)) ≡ false
      by true other' = absurd (other' refl)
      by false other' = h

  still_clean : (x : Bytes × Data) (xs : List (Bytes × Data)) (vals : Map column_cmp Datum) (e : Column × Datum) → T (is_sorted name_cmp (x ∷ xs)) → IsRead t r x e → Clean vals (x ∷ xs) → Clean (maps.insert vals e.0 e.1) xs
  still_clean x xs vals e sorted told clean q inside there =
      not_at vals e.0 q e.1 (λ same. twice (column_exact q e.0 ((Equal-is (column_cmp q e.0)).0 same)))
      (clean q inside (later (eq_by_cmp name_cmp (column_name q) x.0) x.1 (find name_cmp (column_name q) xs) there))
    where
      twice : q ≡ e.0 → ⊥
      twice same =
          let tied : name_cmp (column_name q) x.0 ≡ _ = (Equal-is (name_cmp (column_name q) x.0)).0 (subst (λ n. eq_by_cmp name_cmp (column_name q) n ≡ true) (ap column_name same ∙ sym told.name) ((eq_by_cmp_equiv name_total).refl (column_name q))) in
          true≢false (sym there ∙ ap is_some (none_below name_total (column_name q) x.0 xs tied (t_first (below_all name_cmp x.0 xs) (is_sorted name_cmp xs) sorted)))

  own_name : (x : Bytes × Data) (xs : List (Bytes × Data)) (c : Column) → x.0 ≡ column_name c → is_some (find name_cmp (column_name c) (x ∷ xs)) ≡ true
  own_name x xs c named =
      ap (λ n. is_some (find name_cmp n (x ∷ xs))) (sym named) ∙ ap (λ b. is_some (cond b (Some x.1) (find name_cmp x.0 xs))) ((eq_by_cmp_equiv name_total).refl x.0)

  filled : (xs : List (Bytes × Data)) → T (is_sorted name_cmp xs) → AllByRecursion (Gives (reads t) (IsRead t r)) xs → (vals : Map column_cmp Datum) → Clean vals xs
      → row.values_from vals (filter_map (reads t) xs) ≡ Some (put_all vals (filter_map (reads t) xs))
  filled [] sorted all vals clean = refl
  filled (x ∷ xs) sorted all vals clean =
      let e : Column × Datum = all.0.item in
      let new : maps.has vals e.0 ≡ false = clean e.0 all.0.good.has.inside (own_name x xs e.0 all.0.good.name) in
      let rest : row.values_from (maps.insert vals e.0 e.1) (filter_map (reads t) xs) ≡ Some (put_all (maps.insert vals e.0 e.1) (filter_map (reads t) xs)) =
      filled xs (t_second (below_all name_cmp x.0 xs) (is_sorted name_cmp xs) sorted) all.1 (maps.insert vals e.0 e.1) (still_clean x xs vals e sorted all.0.good clean) in
      subst (λ o. row.values_from vals (cons_option o (filter_map (reads t) xs)) ≡ Some (put_all vals (cons_option o (filter_map (reads t) xs)))) (sym all.0.is)
      (ap (λ b. cond b None (row.values_from (maps.insert vals e.0 e.1) (filter_map (reads t) xs))) new ∙ rest)

  -- a column whose name is still to come, or at which the row's value is there
  abbrev Met : Map column_cmp Datum → List (Bytes × Data) → Column → Type 0
  Met vals xs q = ((belongs q t ≡ true) × (is_some (find name_cmp (column_name q) xs) ≡ true)) ⊎ (maps.get vals q ≡ maps.get r.values q)

  met : (x : Bytes × Data) (xs : List (Bytes × Data)) (vals : Map column_cmp Datum) (e : Column × Datum) (q : Column) → IsRead t r x e → Met vals (x ∷ xs) q → Met (maps.insert vals e.0 e.1) xs q
  met x xs vals e q told before = at_column (eq_by_cmp column_cmp q e.0) refl
    where
      got : maps.get (maps.insert vals e.0 e.1) q ≡ cond (eq_by_cmp column_cmp q e.0) (Some e.1) (maps.get vals q)
      got = maps.get-insert column_total vals e.0 e.1 q

      apart : eq_by_cmp column_cmp q e.0 ≡ false → (b : Bool) → eq_by_cmp name_cmp (column_name q) x.0 ≡ b → belongs q t ≡ true → is_some (cond b (Some x.1) (find name_cmp (column_name q) xs)) ≡ true → is_some (find name_cmp (column_name q) xs) ≡ true
      apart other false is inside there = there
      apart other true is inside there =
          let same : q ≡ e.0 = same_columns_of t q e.0 inside told.has.inside (name_exact (column_name q) x.0 ((Equal-is (name_cmp (column_name q) x.0)).0 is) ∙ told.name) in
          absurd (true≢false (sym (subst (λ c. eq_by_cmp column_cmp q c ≡ true) same ((eq_by_cmp_equiv column_total).refl q)) ∙ other))

      at_column : (b : Bool) → eq_by_cmp column_cmp q e.0 ≡ b → Met (maps.insert vals e.0 e.1) xs q
      at_column true is = inr (got ∙ ap (λ b. cond b (Some e.1) (maps.get vals q)) is ∙ sym told.has.held ∙ ap (maps.get r.values) (sym (column_exact q e.0 ((Equal-is (column_cmp q e.0)).0 is))))
      at_column false is = from before
        where
          from : Met vals (x ∷ xs) q → Met (maps.insert vals e.0 e.1) xs q
          from (inl p) = inl (p.0, apart is (eq_by_cmp name_cmp (column_name q) x.0) refl p.0 p.1)
          from (inr p) = inr (got ∙ ap (λ b. cond b (Some e.1) (maps.get vals q)) is ∙ p)

  gets : (xs : List (Bytes × Data)) → AllByRecursion (Gives (reads t) (IsRead t r)) xs → (vals : Map column_cmp Datum) (q : Column) → Met vals xs q → maps.get (put_all vals (filter_map (reads t) xs)) q ≡ maps.get r.values q
  gets [] all vals q (inl p) = absurd (true≢false (sym p.1))
  gets [] all vals q (inr p) = p
  gets (x ∷ xs) all vals q m =
      subst (λ o. maps.get (put_all vals (cons_option o (filter_map (reads t) xs))) q ≡ maps.get r.values q) (sym all.0.is)
      (gets xs all.1 (maps.insert vals all.0.item.0 all.0.item.1) q (met x xs vals all.0.item q all.0.good m))

  named_in_cut : (q : Column) (cs : List Column) → list_any (same_column q) cs ≡ true → is_some (find name_cmp (column_name q) (members_json (cut cs r))) ≡ true
  named_in_cut q [] is = absurd (true≢false (sym is))
  named_in_cut q (c ∷ cs) is = by (same_column q c) refl is (named_in_cut q cs)
    where
      by : (b : Bool) → same_column q c ≡ b → (b || list_any (same_column q) cs) ≡ true → (list_any (same_column q) cs ≡ true → is_some (find name_cmp (column_name q) (members_json (cut cs r))) ≡ true)
          → is_some (find name_cmp (column_name q) (members_json (cut (c ∷ cs) r))) ≡ true
      by true same there rest = own_name (column_name c, datum_json (value_at r c)) (members_json (cut cs r)) q (sym (ap column_name (same_column_exact q c same)))
      by false same there rest = later (eq_by_cmp name_cmp (column_name q) (column_name c)) (datum_json (value_at r c)) (find name_cmp (column_name q) (members_json (cut cs r))) (rest there)

  -- a row of all its values is read as it
  pub whole_back : told_whole t (cut_json (cut (columns_of t) r)) ≡ Some r
  whole_back =
      let xs : List (Bytes × Data) = placed (members_json (cut (columns_of t) r)) in
      let told : AllByRecursion (Gives (reads t) (IsRead t r)) xs = placed_told (cut (columns_of t) r) (cut_has t r fits) in
      ap (option_and_then (row_of t)) (told_back (cut (columns_of t) r) (cut_has t r fits))
      ∙ ap (option_and_then (row_if t)) (filled xs (placed_sorted (members_json (cut (columns_of t) r))) told maps.empty (λ c inside there. refl))
      ∙ ap (row_if t) (maps.same_map column_total column_exact (put_all maps.empty (filter_map (reads t) xs)) r.values (λ q. gets xs told maps.empty q (at_start q)))
      ∙ row_is
    where
      at_start : (q : Column) → Met maps.empty (placed (members_json (cut (columns_of t) r))) q
      at_start q = by_table (belongs q t) refl (maps.get r.values q) refl
        where
          by_table : (b : Bool) → belongs q t ≡ b → (o : Option Datum) → maps.get r.values q ≡ o → Met maps.empty (placed (members_json (cut (columns_of t) r))) q
          by_table true is o e = inl (is, placed_has (members_json (cut (columns_of t) r)) (column_name q) ∙ named_in_cut q (columns_of t) is)
          by_table false is None e = inr (sym e)
          by_table false is (Some d) e =
              absurd (true≢false (sym (first_so (belongs q r.table) (allowed q d) (found column_exact (λ x. belongs x.0 r.table && allowed x.0 x.1) q d r.values.list (second_so _ _ fits.row) e)) ∙ ap (belongs q) fits.table ∙ is))

      row_is : row_if t r.values ≡ Some r
      row_is = ap (λ s. row_if s r.values) (sym fits.table) ∙ ap (λ b. cond b (Some r) None) fits.row

  -- values of it are read as such
  pub some_back : (e : Column × Datum) (es : Cut) → AllByRecursion (Has t r) (e ∷ es) → told_some t (cut_json (e ∷ es)) ≡ Some (listed (e ∷ es))
  some_back e es all = ap (option_and_then at_least_one) (told_back (e ∷ es) all)
      ∙ some_of (placed (members_json (e ∷ es))) (placed_told (e ∷ es) all) (placed_has (members_json (e ∷ es)) (column_name e.0) ∙ own_name (column_name e.0, datum_json e.1) (members_json es) e.0 refl)
    where
      some_of : (xs : List (Bytes × Data)) → AllByRecursion (Gives (reads t) (IsRead t r)) xs → is_some (find name_cmp (column_name e.0) xs) ≡ true → at_least_one (filter_map (reads t) xs) ≡ Some (filter_map (reads t) xs)
      some_of [] told there = absurd (true≢false (sym there))
      some_of (x ∷ xs) told there = subst (λ o. at_least_one (cons_option o (filter_map (reads t) xs)) ≡ Some (cons_option o (filter_map (reads t) xs))) (sym told.0.is) refl

  pub listed_is : (es : Cut) → AllByRecursion (Has t r) es → has_values (listed es) r ≡ true
  listed_is es all = by (listed es) (listed_has es all)
    where
      by : (vs : List (Column × Datum)) → AllByRecursion (Has t r) vs → has_values vs r ≡ true
      by [] h = refl
      by (v ∷ vs) h = ap (λ o. is_value o v.1 && has_values vs r) h.0.held ∙ (λ i. (same_datum_exact v.1 v.1).1 refl i && by vs h.1 i)
