-- The updates of a change, row by row and table by table.
use Rattle.std.proofs.Common.{◌≡◌, Bool, true, false, cond, List, [], ◌∷◌, length, Option, Some, None, option_map, refl, ap, ◌∙◌, arith}
use Rattle.std.specs.Prelude.{option_and_then, filter_map, String}
use Rattle.std.specs.List.{cons_option}
use Rattle.std.specs.Cmp.{Equal-is}
use Rattle.std.specs.declared.alloc.Global.{Global}
use Rattle.serde_json.specs.Data.{Data, object, no_members}
use Rattle.serde_json.specs.View.{members_view}
use Rattle.serde_json.specs.declared.value.Value.{Value}
use Rattle.vtep_base.specs.Reading.{Bytes}
use Rattle.json_notation.specs.Json.{to_members}
use Rattle.ovsdb_values.specs.Notation.{id_text}
use Rattle.vtep_schema.specs.declared.Table.{Table}
use Rattle.vtep_schema.specs.Tables.{same_table, table_cmp, table_name}
use Rattle.vtep_schema.specs.Orders.{table_exact}
use Rattle.vtep_rows.specs.Rows.{Rows, Key, row_at}
use Rattle.vtep_rows.specs.Changes.{keys_of_both, change_at, changes, differ}
use Rattle.vtep_rows.specs.declared.differences.RowChange.{RowChange}
use Rattle.monitor_updates.specs.declared.requests.MonitorRequest.{MonitorRequest}
use Rattle.monitor_updates.specs.Noted as noted
use Rattle.monitor_updates.specs.Noted.{Update, asked_of}
use Rattle.monitor_updates.specs.Updates.{update_json, in_table, table_member}
use Rattle.monitor_updates.specs.OneRow.{told_by, told_member, told_row, noted_in, with_some}
use Rattle.monitor_updates.proofs.Views.{noted_is, unchanged_told}

-- ---- the updates are those of the change

along : {A B C : Type 0} (f : A → Option C) (g : B → Option C) (h : A → Option B) → ((x : A) → f x ≡ option_and_then g (h x)) → (xs : List A) → filter_map f xs ≡ filter_map g (filter_map h xs)
along f g h same [] = refl
along f g h same (x ∷ xs) = ap (λ o. cons_option o (filter_map f xs)) (same x) ∙ ap (cons_option (option_and_then g (h x))) (along f g h same xs) ∙ by (h x)
  where
    by : (o : Option _) → cons_option (option_and_then g o) (filter_map g (filter_map h xs)) ≡ filter_map g (cons_option o (filter_map h xs))
    by None = refl
    by (Some b) = refl

told_at : (request : List MonitorRequest) (old new : Rows) (k : Key)
    → option_map (λ u. (k, u)) (noted.noted_at request (noted.view request old) (noted.view request new) k) ≡ option_and_then (told_row request) (change_at old new k)
told_at request old new k = ap (option_map (λ u. (k, u))) (noted_is request old new k) ∙ by (differ (row_at old k) (row_at new k)) refl
  where
    by : (b : Bool) → differ (row_at old k) (row_at new k) ≡ b
        → option_map (λ u. (k, u)) (told_by (asked_of request k.0) (row_at old k) (row_at new k))
        ≡ option_and_then (told_row request) (cond b (Some (record { table = k.0; id = k.1; old = row_at old k; new = row_at new k })) None)
    by true e = refl
    by false e = ap (option_map (λ u. (k, u))) (unchanged_told (asked_of request k.0) (row_at old k) (row_at new k) e)

pub noted_from : (request : List MonitorRequest) (old new : Rows) → noted.noted request old new ≡ noted_in request (changes old new)
noted_from request old new = along _ (told_row request) (change_at old new) (told_at request old new) (keys_of_both old new)

-- ---- table by table

same_table_is : (s t : Table) → same_table s t ≡ true → s ≡ t
same_table_is s t e = table_exact s t ((Equal-is (table_cmp s t)).0 e)

in_told_by : (t : Table) (c : RowChange) (b : Bool) (u : Option Update) (us : List (Key × Update)) → same_table c.table t ≡ b
    → in_table t (cons_option (option_map (λ u. ((c.table, c.id), u)) u) us) ≡ cons_option (cond b (option_map (λ u. (id_text c.id, update_json u)) u) None) (in_table t us)
in_told_by t c true None us e = refl
in_told_by t c false None us e = refl
in_told_by t c true (Some u) us e = rw e refl
in_told_by t c false (Some u) us e = rw e refl

pub in_told : (request : List MonitorRequest) (t : Table) (change : List RowChange) → in_table t (noted_in request change) ≡ filter_map (told_member t (asked_of request t)) change
in_told request t [] = refl
in_told request t (c ∷ change) =
    in_told_by t c (same_table c.table t) (told_by (asked_of request c.table) c.old c.new) (noted_in request change) refl
    ∙ by (same_table c.table t) refl
    ∙ ap (cons_option (told_member t (asked_of request t) c)) (in_told request t change)
  where
    by : (b : Bool) → same_table c.table t ≡ b
        → cons_option (cond b (option_map (λ u. (id_text c.id, update_json u)) (told_by (asked_of request c.table) c.old c.new)) None) (in_table t (noted_in request change))
        ≡ cons_option (cond b (option_map (λ u. (id_text c.id, update_json u)) (told_by (asked_of request t) c.old c.new)) None) (in_table t (noted_in request change))
    by true e = ap (λ s. cons_option (option_map (λ u. (id_text c.id, update_json u)) (told_by (asked_of request s) c.old c.new)) (in_table t (noted_in request change))) (same_table_is c.table t e)
    by false e = refl

-- a table of which nothing is asked has nothing to tell
pub nothing_in : (t : Table) (o : Option MonitorRequest) (change : List RowChange) → None ≡ o → filter_map (told_member t o) change ≡ []
nothing_in t (Some a) change e = cc
nothing_in t None [] e = refl
nothing_in t None (c ∷ change) e = by (same_table c.table t) (nothing_in t None change e)
  where
    by : (b : Bool) → filter_map (told_member t None) change ≡ []
        → cons_option (cond b (option_map {U = Bytes × Data} (λ u. (id_text c.id, update_json u)) (told_by None c.old c.new)) None) (filter_map (told_member t None) change) ≡ []
    by true rest = rest
    by false rest = rest

-- ---- members

pub with_some_is : (o : Option (Bytes × Data)) (ms : List (Bytes × Data)) → to_members (cons_option o ms) ≡ with_some o (to_members ms)
with_some_is None ms = refl
with_some_is (Some m) ms = refl

pub some_member : (t : Table) (es : List (String Global × Value)) → (length es ≡ 0 → ⊥) → table_member t (members_view es) ≡ Some (table_name t, object (members_view es))
some_member t [] some = absurd (some refl)
some_member t (x ∷ es) some = refl

pub no_entries : (es : List (String Global × Value)) → length es ≡ 0 → members_view es ≡ no_members
no_entries [] none = refl
no_entries (x ∷ es) none = absurd (omega (arith, none))

pub some_entries : (es : List (String Global × Value)) → (length es ≡ 0 → ⊥) → members_view es ≡ no_members → ⊥
some_entries [] some e = some refl
some_entries (x ∷ es) some e = cc
