-- Each update that is told stands among the members of its table, and that table among the tables.
use Rattle.std.proofs.Common.{◌≡◌, Bool, true, false, cond, ◌||◌, List, [], ◌∷◌, map, Option, Some, None, is_some, refl, sym, ap, subst, ◌∙◌, true≢false}
use Rattle.std.specs.Prelude.{filter}
use Rattle.std.specs.List.{list_any, filter_map, cons_option}
use Rattle.std.specs.Ordering.{eq_by_cmp}
use Rattle.std.specs.Cmp.{Equal-is, eq_by_cmp_equiv}
use Rattle.std.specs.FinMap.{find}
use Rattle.serde_json.specs.Data.{Data, object, Members, no_members, member}
use Rattle.vtep_base.specs.Reading.{Bytes}
use Rattle.json_notation.specs.Json.{list, to_members}
use Rattle.ovsdb_values.specs.Notation.{id_text}
use Rattle.vtep_schema.specs.declared.Table.{Table}
use Rattle.vtep_schema.specs.Tables.{tables, same_table, table_cmp, table_name}
use Rattle.vtep_schema.specs.Orders.{table_total, table_exact}
use Rattle.vtep_rows.specs.Rows.{Key, key_cmp}
use Rattle.vtep_rows.specs.Orders.{key_total, key_exact}
use Rattle.monitor_updates.specs.Noted.{Update}
use Rattle.monitor_updates.specs.Updates.{update_json, in_table, table_member, tables_json, params_json}
use Rattle.monitor_updates.proofs.Known.{known}
use Rattle.monitor_updates.proofs.Members.{name_cmp, name_total, raw, placed, members_placed, placed_has}

pub later_there : {X : Type 0} (b : Bool) (x : X) (o : Option X) → is_some o ≡ true → is_some (cond b (Some x) o) ≡ true
later_there true x o h = refl
later_there false x o h = h

abbrev pub tables_in : List (Key × Update) → List Table → List (Bytes × Data)
tables_in us ts = filter_map (λ t. table_member t (to_members (in_table t us))) ts

pub told_in : (k : Key) (u : Update) (us : List (Key × Update)) → find key_cmp k us ≡ Some u → is_some (find name_cmp (id_text k.1) (in_table k.0 us)) ≡ true
told_in k u [] e = cc
told_in k u (v ∷ us) e = by (eq_by_cmp key_cmp k v.0) refl e (told_in k u us)
  where
    kept : (b : Bool) → is_some (find name_cmp (id_text k.1) (in_table k.0 us)) ≡ true
        → is_some (find name_cmp (id_text k.1) (map (λ (w : Key × Update). (id_text w.0.1, update_json w.1)) (cond b (v ∷ filter (λ (w : Key × Update). same_table w.0.0 k.0) us) (filter (λ (w : Key × Update). same_table w.0.0 k.0) us)))) ≡ true
    kept true h = later_there (eq_by_cmp name_cmp (id_text k.1) (id_text v.0.1)) (update_json v.1) (find name_cmp (id_text k.1) (in_table k.0 us)) h
    kept false h = h

    first_one : (b : Bool) → b ≡ true → eq_by_cmp name_cmp (id_text k.1) (id_text v.0.1) ≡ true
        → is_some (find name_cmp (id_text k.1) (map (λ (w : Key × Update). (id_text w.0.1, update_json w.1)) (cond b (v ∷ filter (λ (w : Key × Update). same_table w.0.0 k.0) us) (filter (λ (w : Key × Update). same_table w.0.0 k.0) us)))) ≡ true
    first_one true is same = ap (λ b. is_some (cond b (Some (update_json v.1)) (find name_cmp (id_text k.1) (in_table k.0 us)))) same
    first_one false is same = cc

    by : (b : Bool) → eq_by_cmp key_cmp k v.0 ≡ b → cond b (Some v.1) (find key_cmp k us) ≡ Some u → (find key_cmp k us ≡ Some u → is_some (find name_cmp (id_text k.1) (in_table k.0 us)) ≡ true)
        → is_some (find name_cmp (id_text k.1) (in_table k.0 (v ∷ us))) ≡ true
    by false is at rest = kept (same_table v.0.0 k.0) (rest at)
    by true is at rest =
        let same : k ≡ v.0 = key_exact k v.0 ((Equal-is (key_cmp k v.0)).0 is) in
        first_one (same_table v.0.0 k.0) (subst (λ q. same_table q.0 k.0 ≡ true) same ((eq_by_cmp_equiv table_total).refl k.0))
        (subst (λ q. eq_by_cmp name_cmp (id_text k.1) (id_text q.1) ≡ true) same ((eq_by_cmp_equiv name_total).refl (id_text k.1)))

pub none_there : (q : Bytes) (xs : List (Bytes × Data)) → is_some (find name_cmp q xs) ≡ true → to_members xs ≡ no_members → ⊥
none_there q xs there e = by (placed xs) (placed_has xs q ∙ there) (sym (members_placed xs) ∙ e)
  where
    by : (ys : List (Bytes × Data)) → is_some (find name_cmp q ys) ≡ true → raw ys ≡ no_members → ⊥
    by [] at none = true≢false (sym at)
    by (y ∷ ys) at none = cc

pub table_named_in : (us : List (Key × Update)) (k : Key) (ts : List Table) → list_any (same_table k.0) ts ≡ true → is_some (find name_cmp (id_text k.1) (in_table k.0 us)) ≡ true → is_some (find name_cmp (table_name k.0) (tables_in us ts)) ≡ true
table_named_in us k [] is there = absurd (true≢false (sym is))
table_named_in us k (t ∷ ts) is there = by (same_table k.0 t) refl is (λ more. table_named_in us k ts more there)
  where
    kept : (o : Option (Bytes × Data)) → is_some (find name_cmp (table_name k.0) (tables_in us ts)) ≡ true → is_some (find name_cmp (table_name k.0) (cons_option o (tables_in us ts))) ≡ true
    kept None h = h
    kept (Some x) h = later_there (eq_by_cmp name_cmp (table_name k.0) x.0) x.1 (find name_cmp (table_name k.0) (tables_in us ts)) h

    this : (ms : Members) → to_members (in_table k.0 us) ≡ ms → is_some (find name_cmp (table_name k.0) (cons_option (table_member k.0 ms) (tables_in us ts))) ≡ true
    this no_members e = absurd (none_there (id_text k.1) (in_table k.0 us) there e)
    this (member id d ms) e = ap (λ b. is_some (cond b (Some (object (member id d ms))) (find name_cmp (table_name k.0) (tables_in us ts)))) ((eq_by_cmp_equiv name_total).refl (table_name k.0))

    by : (b : Bool) → same_table k.0 t ≡ b → (b || list_any (same_table k.0) ts) ≡ true → (list_any (same_table k.0) ts ≡ true → is_some (find name_cmp (table_name k.0) (tables_in us ts)) ≡ true)
        → is_some (find name_cmp (table_name k.0) (tables_in us (t ∷ ts))) ≡ true
    by true same at rest = subst (λ s. is_some (find name_cmp (table_name k.0) (cons_option (table_member s (to_members (in_table s us))) (tables_in us ts))) ≡ true) (table_exact k.0 t ((Equal-is (table_cmp k.0 t)).0 same)) (this (to_members (in_table k.0 us)) refl)
    by false same at rest = kept (table_member t (to_members (in_table t us))) (rest at)

-- ---- whether there is anything to tell

pub nothing_told : (us : List (Key × Update)) → tables_json (λ t. in_table t us) ≡ no_members → us ≡ []
nothing_told [] e = refl
nothing_told (u ∷ us) e =
    let here : find key_cmp u.0 (u ∷ us) ≡ Some u.1 = ap (λ b. cond b (Some u.1) (find key_cmp u.0 us)) ((eq_by_cmp_equiv key_total).refl u.0) in
    absurd (none_there (table_name u.0.0) (tables_in (u ∷ us) tables) (table_named_in (u ∷ us) u.0 tables (known u.0.0).listed (told_in u.0 u.1 (u ∷ us) here)) e)

pub something_told : (id : Data) (us : List (Key × Update)) (ms : Members) → tables_json (λ t. in_table t us) ≡ ms → (ms ≡ no_members → ⊥) → params_json id us ≡ Some (list (id ∷ object ms ∷ []))
something_told id [] ms e some = absurd (some (sym e))
something_told id (u ∷ us) ms e some = ap (λ m. Some (list (id ∷ object m ∷ []))) e
