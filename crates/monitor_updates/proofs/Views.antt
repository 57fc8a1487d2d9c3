-- The view of the rows, and that the updates lead from the one before to the one after.
use Rattle.std.proofs.Common.{◌≡◌, Bool, true, false, cond, ◌&&◌, not, List, [], ◌∷◌, ◌++◌, map, Option, Some, None, is_some, refl, sym, ap, subst, ◌∙◌}
use Rattle.std.specs.Prelude.{option_and_then, unwrap_or}
use Rattle.std.specs.List.{list_any}
use Rattle.std.specs.Ordering.{eq_by_cmp}
use Rattle.std.specs.Cmp.{first_so, second_so, Equal-is, eq_by_cmp_equiv}
use Rattle.std.specs.Cmp.Lexicographic.{pointwise_decides}
use Rattle.std.specs.Bool.{Decides}
use Rattle.std.specs.FinMap.{find}
use Rattle.std.specs.FinMap.Entries.{is_some-find}
use Rattle.vtep_base.specs.Maps as maps
use Rattle.vtep_base.specs.Maps.{Map}
use Rattle.ovsdb_values.specs.declared.datums.Datum.{Datum}
use Rattle.ovsdb_values.specs.declared.datums.Datum.TheVariants.{Set}
use Rattle.ovsdb_values.specs.Sets.{same_datum}
use Rattle.ovsdb_values.specs.Exact.{same_datum_exact}
use Rattle.vtep_schema.specs.declared.Table.{Table}
use Rattle.vtep_schema.specs.declared.Column.{Column}
use Rattle.vtep_schema.specs.Tables.{column_cmp, same_table}
use Rattle.vtep_schema.specs.Orders.{column_exact, column_total}
use Rattle.vtep_rows.specs.Row.{Contents, value_at, same_row}
use Rattle.vtep_rows.specs.Rows.{Rows, Key, key_cmp, row_at}
use Rattle.vtep_rows.specs.Orders.{key_total, key_exact}
use Rattle.vtep_rows.specs.Changes.{keys_of_both, differ}
use Rattle.monitor_updates.specs.declared.requests.MonitorRequest.{MonitorRequest}
use Rattle.monitor_updates.specs.Noted.{Cut, cut, cut_at, asked_of, listed, view, Update, Insert, Delete, Modify, differing, changed, update, wanted, noted_at, noted, folded, folded_one, wants_all}
use Rattle.monitor_updates.specs.OneRow.{cut_by, told_by}
use Rattle.monitor_updates.proofs.Keyed.{none_of, find-listed, both_gone}

-- ---- the view

no_cut : (o : Option MonitorRequest) (row : Option Contents) → row ≡ None → cut_by o row ≡ None
no_cut None row e = refl
no_cut (Some a) row e = rw e refl

pub gone : (r : Rows) (q : Key) → list_any (eq_by_cmp key_cmp q) (maps.keys r.rows) ≡ false → row_at r q ≡ None
gone r q e = none_of (row_at r q) (is_some-find key_cmp q r.rows.list ∙ e)

-- the view has at each key the row as the request sees it
pub get-view : (request : List MonitorRequest) (r : Rows) (q : Key) → maps.get (view request r) q ≡ cut_by (asked_of request q.0) (row_at r q)
get-view request r q =
    maps.get-of_list key_total (listed (cut_at request r) (maps.keys r.rows)) q
    ∙ find-listed (cut_at request r) (maps.keys r.rows) q (λ e. no_cut (asked_of request q.0) (row_at r q) (gone r q e))

pub noted_is : (request : List MonitorRequest) (old new : Rows) (k : Key) → noted_at request (view request old) (view request new) k ≡ told_by (asked_of request k.0) (row_at old k) (row_at new k)
noted_is request old new k =
    λ i. option_and_then (wanted (asked_of request k.0)) (update (get-view request old k i) (get-view request new k i))

-- ---- rows that are the same are told as nothing

pub same_columns : (columns : List Column) (r : Contents) → differing (cut columns r) (cut columns r) ≡ []
same_columns [] r = refl
same_columns (c ∷ columns) r = rw ((same_datum_exact (value_at r c) (value_at r c)).1 refl) (same_columns columns r)

not_so : (b : Bool) → not b ≡ false → b ≡ true
not_so true e = refl
not_so false e = cc

same_column_exact : (c d : Column) → Decides (eq_by_cmp column_cmp c d) (c ≡ d)
same_column_exact c d =
    (λ h. column_exact c d ((Equal-is (column_cmp c d)).0 h), λ e. subst (λ x. eq_by_cmp column_cmp c x ≡ true) e ((eq_by_cmp_equiv column_total).refl c))

same_value_exact : (e f : Column × Datum) → Decides (eq_by_cmp column_cmp e.0 f.0 && same_datum e.1 f.1) (e ≡ f)
same_value_exact e f =
    let keys = same_column_exact e.0 f.0 in
    let values = same_datum_exact e.1 f.1 in (
      λ h i. (keys.0 (first_so (eq_by_cmp column_cmp e.0 f.0) (same_datum e.1 f.1) h) i, values.0 (second_so (eq_by_cmp column_cmp e.0 f.0) (same_datum e.1 f.1) h) i),
      λ same i. keys.1 (ap (λ r. r.0) same) i && values.1 (ap (λ r. r.1) same) i,
    )

same_values : (r s : Contents) → same_row r s ≡ true → r.values.list ≡ s.values.list
same_values r s e = (pointwise_decides same_value_exact r.values.list s.values.list).0 (second_so (same_table r.table s.table) _ e)

cut_alike : (columns : List Column) (r s : Contents) → r.values.list ≡ s.values.list → cut columns r ≡ cut columns s
cut_alike columns r s e = ap (λ es. map (λ c. (c, unwrap_or (find column_cmp c es) (Set []))) columns) e

same_told : (columns : List Column) (r s : Contents) → same_row r s ≡ true → differing (cut columns r) (cut columns s) ≡ []
same_told columns r s e = ap (differing (cut columns r)) (sym (cut_alike columns r s (same_values r s e))) ∙ same_columns columns r

-- a row that does not differ is told as nothing
pub unchanged_told : (o : Option MonitorRequest) (a b : Option Contents) → differ a b ≡ false → told_by o a b ≡ None
unchanged_told None a b e = refl
unchanged_told (Some x) None None e = refl
unchanged_told (Some x) None (Some s) e = cc
unchanged_told (Some x) (Some r) None e = cc
unchanged_told (Some x) (Some r) (Some s) e =
    ap (λ before. option_and_then (wanted (Some x)) (changed before (cut x.columns s))) (same_told x.columns r s (not_so (same_row r s) e))

-- ---- the updates lead from the view before to the view after

-- what an update makes of what was there
abbrev after : Update → Option Cut
after (Insert new) = Some new
after (Delete old) = None
after (Modify before new) = Some new

abbrev patched : Option Update → Option Cut → Option Cut
patched None x = x
patched (Some u) x = after u

get-folded_one : (m : Map key_cmp Cut) (k : Key) (u : Update) (q : Key) → maps.get (folded_one m k u) q ≡ cond (eq_by_cmp key_cmp q k) (after u) (maps.get m q)
get-folded_one m k (Insert new) q = maps.get-insert key_total m k new q
get-folded_one m k (Delete old) q = maps.get-remove key_total m k q
get-folded_one m k (Modify before new) q = maps.get-insert key_total m k new q

chosen : (b : Bool) (u : Update) (r : Option Update) (x : Option Cut) → cond b (after u) (patched r x) ≡ patched (cond b (Some u) r) x
chosen true u r x = refl
chosen false u r x = refl

get-folded : (m : Map key_cmp Cut) (us : List (Key × Update)) (q : Key) → maps.get (folded m us) q ≡ patched (find key_cmp q us) (maps.get m q)
get-folded m [] q = refl
get-folded m (u ∷ us) q =
    get-folded_one (folded m us) u.0 u.1 q
    ∙ ap (cond (eq_by_cmp key_cmp q u.0) (after u.1)) (get-folded m us q)
    ∙ chosen (eq_by_cmp key_cmp q u.0) u.1 (find key_cmp q us) (maps.get m q)

-- ---- at each key

-- rows of which no column differs are seen as the same
pub unchanged : (columns : List Column) (r s : Contents) → differing (cut columns r) (cut columns s) ≡ [] → cut columns r ≡ cut columns s
unchanged [] r s e = refl
unchanged (c ∷ columns) r s e = by (same_datum (value_at r c) (value_at s c)) refl e (unchanged columns r s)
  where
    by : (b : Bool) → same_datum (value_at r c) (value_at s c) ≡ b → cond b (differing (cut columns r) (cut columns s)) ((c, value_at r c) ∷ differing (cut columns r) (cut columns s)) ≡ []
        → (differing (cut columns r) (cut columns s) ≡ [] → cut columns r ≡ cut columns s) → cut (c ∷ columns) r ≡ cut (c ∷ columns) s
    by true is e rest = let first : value_at r c ≡ value_at s c = (same_datum_exact (value_at r c) (value_at s c)).0 is in λ i. (c, first i) ∷ rest e i
    by false is e rest = cc

-- a table's request leaves nothing out
pub record Whole (a : MonitorRequest) : Type 0 where
  pub insert : a.insert ≡ true
  pub delete : a.delete ≡ true
  pub modify : a.modify ≡ true

abbrev AllWhole : Option MonitorRequest → Type 0
AllWhole None = Unit {0}
AllWhole (Some a) = Whole a

changed_leads : (a : MonitorRequest) (r s : Contents) (before : Cut) → Whole a → differing (cut a.columns r) (cut a.columns s) ≡ before
    → patched (option_and_then (wanted (Some a)) (changed before (cut a.columns s))) (Some (cut a.columns r)) ≡ Some (cut a.columns s)
changed_leads a r s [] w e = ap Some (unchanged a.columns r s e)
changed_leads a r s (b ∷ before) w e = rw w.modify refl

leads : (o : Option MonitorRequest) (old new : Option Contents) → AllWhole o → patched (told_by o old new) (cut_by o old) ≡ cut_by o new
leads None old new w = refl
leads (Some a) None None w = refl
leads (Some a) None (Some s) w = rw w.insert refl
leads (Some a) (Some r) None w = rw w.delete refl
leads (Some a) (Some r) (Some s) w = changed_leads a r s _ w refl

all_true : (a : MonitorRequest) → (a.initial && a.insert && a.delete && a.modify) ≡ true → Whole a
all_true a e = record {
  insert = second_so a.initial a.insert (first_so (a.initial && a.insert) a.delete (first_so (a.initial && a.insert && a.delete) a.modify e));
  delete = second_so (a.initial && a.insert) a.delete (first_so (a.initial && a.insert && a.delete) a.modify e);
  modify = second_so (a.initial && a.insert && a.delete) a.modify e;
}

whole_of : (request : List MonitorRequest) (t : Table) → wants_all request ≡ true → AllWhole (asked_of request t)
whole_of [] t e = tt
whole_of (a ∷ request) t e = by (same_table a.table t) (all_true a (first_so (a.initial && a.insert && a.delete && a.modify) (wants_all request) e)) (whole_of request t (second_so (a.initial && a.insert && a.delete && a.modify) (wants_all request) e))
  where
    by : (b : Bool) → Whole a → AllWhole (asked_of request t) → AllWhole (cond b (Some a) (asked_of request t))
    by true here rest = here
    by false here rest = rest

-- ---- all keys

find-keys : (old new : Rows) (q : Key) → list_any (eq_by_cmp key_cmp q) (keys_of_both old new) ≡ false → (row_at old q ≡ None) × (row_at new q ≡ None)
find-keys old new q e =
    both_gone q old.rows.list new.rows.list
    (ap is_some (sym (maps.get-of_list key_total (old.rows.list ++ new.rows.list) q)) ∙ is_some-find key_cmp q (maps.of_list {R = key_cmp} (old.rows.list ++ new.rows.list)).list ∙ e)

nothing_told : (o : Option MonitorRequest) → told_by o None None ≡ None
nothing_told None = refl
nothing_told (Some a) = refl

pub find-noted : (request : List MonitorRequest) (old new : Rows) (q : Key) → find key_cmp q (noted request old new) ≡ told_by (asked_of request q.0) (row_at old q) (row_at new q)
find-noted request old new q =
    find-listed (noted_at request (view request old) (view request new)) (keys_of_both old new) q
    (λ e. let p = find-keys old new q e in noted_is request old new q ∙ (λ i. told_by (asked_of request q.0) (p.0 i) (p.1 i)) ∙ nothing_told (asked_of request q.0))
    ∙ noted_is request old new q

pub folds : (request : List MonitorRequest) (old new : Rows) → wants_all request ≡ true → folded (view request old) (noted request old new) ≡ view request new
folds request old new whole = maps.same_map key_total key_exact _ _ (λ q.
    get-folded (view request old) (noted request old new) q
    ∙ (λ i. patched (find-noted request old new q i) (get-view request old q i))
    ∙ leads (asked_of request q.0) (row_at old q) (row_at new q) (whole_of request q.0 whole)
    ∙ sym (get-view request new q))
