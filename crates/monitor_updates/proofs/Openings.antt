-- What a new monitor is told, table by table.
use Rattle.std.proofs.Common.{◌≡◌, ℕ, Bool, true, false, cond, List, [], ◌∷◌, map, Option, Some, None, option_map, refl, sym, ap, ◌∙◌}
use Rattle.std.specs.Prelude.{filter, filter_map}
use Rattle.std.specs.List.{cons_option}
use Rattle.std.specs.Cmp.{Equal-is}
use Rattle.serde_json.specs.Data.{Data, object}
use Rattle.vtep_base.specs.Reading.{Bytes}
use Rattle.vtep_base.specs.Maps as maps
use Rattle.ovsdb_values.specs.Notation.{id_text}
use Rattle.vtep_schema.specs.declared.Table.{Table}
use Rattle.vtep_schema.specs.Tables.{same_table, table_cmp}
use Rattle.vtep_schema.specs.Orders.{table_exact}
use Rattle.vtep_rows.specs.Row.{Contents}
use Rattle.vtep_rows.specs.Rows.{Rows, Key, row_at, ids_of}
use Rattle.monitor_updates.specs.declared.requests.MonitorRequest.{MonitorRequest}
use Rattle.monitor_updates.specs.Noted.{Update, Insert, cut, asked_of, listed, view, initially, opening}
use Rattle.monitor_updates.specs.Updates.{update_json, in_table, tables_json, updates_json}
use Rattle.monitor_updates.specs.OneRow.{initial_member, there_member}
use Rattle.monitor_updates.proofs.Views.{get-view}

in_one : (t : Table) (k : Key) (b : Bool) (o : Option Update) (us : List (Key × Update)) → same_table k.0 t ≡ b
    → in_table t (cons_option (option_map (λ u. (k, u)) o) us) ≡ cons_option (cond b (option_map {U = Bytes × Data} (λ u. (id_text k.1, update_json u)) o) None) (in_table t us)
in_one t k true None us e = refl
in_one t k false None us e = refl
in_one t k true (Some u) us e = rw e refl
in_one t k false (Some u) us e = rw e refl

abbrev member_of : (Key → Option Update) → Table → ℕ → Option (Bytes × Data)
member_of g t id = option_map (λ u. (id_text id, update_json u)) (g (t, id))

same_key_of : (k : Key) (t : Table) → same_table k.0 t ≡ true → k ≡ (t, k.1)
same_key_of k t e = λ i. (table_exact k.0 t ((Equal-is (table_cmp k.0 t)).0 e) i, k.1)

abbrev ids_in : Table → List (Key × Contents) → List ℕ
ids_in t es = map (λ (row : ℕ × Contents). row.0) (map (λ (e : Key × Contents). (e.0.1, e.1)) (filter (λ (e : Key × Contents). same_table e.0.0 t) es))

in_listed : (g : Key → Option Update) (t : Table) (es : List (Key × Contents)) → in_table t (listed g (map (λ e. e.0) es)) ≡ filter_map (member_of g t) (ids_in t es)
in_listed g t [] = refl
in_listed g t (e ∷ es) = in_one t e.0 (same_table e.0.0 t) (g e.0) (listed g (map (λ x. x.0) es)) refl ∙ by (same_table e.0.0 t) refl (in_listed g t es)
  where
    by : (b : Bool) → same_table e.0.0 t ≡ b → in_table t (listed g (map (λ x. x.0) es)) ≡ filter_map (member_of g t) (ids_in t es)
        → cons_option (cond b (option_map {U = Bytes × Data} (λ u. (id_text e.0.1, update_json u)) (g e.0)) None) (in_table t (listed g (map (λ x. x.0) es)))
        ≡ filter_map (member_of g t) (map (λ (row : ℕ × Contents). row.0) (map (λ (x : Key × Contents). (x.0.1, x.1)) (cond b (e ∷ filter (λ (x : Key × Contents). same_table x.0.0 t) es) (filter (λ (x : Key × Contents). same_table x.0.0 t) es))))
    by true is rest =
        ap (λ (k : Key). cons_option (option_map {U = Bytes × Data} (λ u. (id_text e.0.1, update_json u)) (g k)) (in_table t (listed g (map (λ x. x.0) es)))) (same_key_of e.0 t is)
        ∙ ap (cons_option (option_map {U = Bytes × Data} (λ u. (id_text e.0.1, update_json u)) (g (t, e.0.1)))) rest
    by false is rest = rest

pub in_opening : (request : List MonitorRequest) (r : Rows) (t : Table) → in_table t (opening request r) ≡ filter_map (initial_member t (asked_of request t) r) (ids_of t r)
in_opening request r t =
    in_listed (λ k. initially (asked_of request k.0) (maps.get (view request r) k)) t r.rows.list
    ∙ (λ i. filter_map (λ id. option_map (λ u. (id_text id, update_json u)) (initially (asked_of request t) (get-view request r (t, id) i))) (ids_of t r))

pub opening_of : (request : List MonitorRequest) (r : Rows) → updates_json (opening request r) ≡ object (tables_json (λ t. filter_map (initial_member t (asked_of request t) r) (ids_of t r)))
opening_of request r = λ i. object (tables_json (λ t. in_opening request r t i))

-- ---- tables of which the rows there are told, or not

fresh_is : (t : Table) (a : MonitorRequest) (id : ℕ) (o : Option Contents) → option_map {U = Bytes × Data} (λ u. (id_text id, update_json u)) (option_map Insert (option_map (cut a.columns) o)) ≡ option_map (λ row. (id_text id, update_json (Insert (cut a.columns row)))) o
fresh_is t a id None = refl
fresh_is t a id (Some row) = refl

initial_is : (t : Table) (a : MonitorRequest) (r : Rows) (id : ℕ) → a.initial ≡ true → initial_member t (Some a) r id ≡ there_member t a r id
initial_is t a r id e = rw e (fresh_is t a id (row_at r (t, id)))

pub told_there : (t : Table) (o : Option MonitorRequest) (a : MonitorRequest) (r : Rows) (ids : List ℕ) → Some a ≡ o → a.initial ≡ true → filter_map (there_member t a r) ids ≡ filter_map (initial_member t o r) ids
told_there t o a r ids e initial = sym (λ i. filter_map (λ id. initial_is t a r id initial i) ids) ∙ ap (λ x. filter_map (initial_member t x r) ids) e

no_initial : (t : Table) (a : MonitorRequest) (r : Rows) (id : ℕ) → a.initial ≡ false → initial_member t (Some a) r id ≡ None
no_initial t a r id e = rw e refl

all_none : (f : ℕ → Option (Bytes × Data)) → ((id : ℕ) → f id ≡ None) → (ids : List ℕ) → filter_map f ids ≡ []
all_none f none [] = refl
all_none f none (id ∷ ids) = ap (λ m. cons_option m (filter_map f ids)) (none id) ∙ all_none f none ids

pub told_not : (t : Table) (o : Option MonitorRequest) (a : MonitorRequest) (r : Rows) (ids : List ℕ) → Some a ≡ o → a.initial ≡ false → filter_map (initial_member t o r) ids ≡ []
told_not t o a r ids e initial = ap (λ x. filter_map (initial_member t x r) ids) (sym e) ∙ all_none (initial_member t (Some a) r) (λ id. no_initial t a r id initial) ids

pub not_asked : (t : Table) (o : Option MonitorRequest) (r : Rows) (ids : List ℕ) → None ≡ o → filter_map (initial_member t o r) ids ≡ []
not_asked t o r ids e = ap (λ x. filter_map (initial_member t x r) ids) (sym e) ∙ all_none (initial_member t None r) (λ id. refl) ids
