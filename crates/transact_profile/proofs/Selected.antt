-- A row that conditions ask for by its identifier is looked up: no other row meets them.
use Rattle.std.proofs.Common.{◌≡◌, ℕ, Bool, true, false, cond, T, List, [], ◌∷◌, map, is_some, Option, Some, None, refl, sym, ap, ◌∙◌, true≢false}
use Rattle.std.specs.List.{filter}
use Rattle.std.specs.Ordering.{is_eq}
use Rattle.std.specs.Cmp.{Equal-is, eq_by_cmp_equiv}
use Rattle.std.specs.declared.cmp.Ordering.{Ordering}
use Rattle.std.specs.declared.cmp.Ordering.TheVariants.{Less, Equal, Greater}
use Rattle.std.specs.FinMap.{find, is_sorted}
use Rattle.std.specs.FinMap.Entries.{below_all}
use Rattle.ovsdb_values.specs.declared.atoms.Atom.TheVariants.{Id}
use Rattle.ovsdb_values.specs.declared.datums.Datum.{Datum}
use Rattle.ovsdb_values.specs.declared.datums.Datum.TheVariants as datum
use Rattle.ovsdb_values.specs.Atoms.{id_in}
use Rattle.ovsdb_values.specs.Sets.{one}
use Rattle.ovsdb_values.specs.Exact.{same_datum_exact}
use Rattle.vtep_schema.specs.declared.Table.{Table}
use Rattle.vtep_schema.specs.Tables.{same_table}
use Rattle.vtep_rows.specs.Row.{Contents}
use Rattle.vtep_rows.specs.Rows.{Key, key_cmp, Rows, row_at}
use Rattle.vtep_rows.specs.Orders.{key_total, key_exact}
use Rattle.vtep_rows.proofs.Entries.{none_below, t_first, t_second}
use Rattle.vtep_rows.proofs.Kept.{same_table_exact, same_table_itself}
use Rattle.transact_profile.specs.declared.operations.Condition.{Condition}
use Rattle.transact_profile.specs.declared.operations.Field.TheVariants as field
use Rattle.transact_profile.specs.declared.operations.Function.TheVariants as function
use Rattle.transact_profile.specs.Conditions.{cell_of, compares_some, Asks, AsksFor, meets, meets_at, selected}

-- ---- what a condition asks for

abbrev id_at : Datum → ℕ
id_at (datum.Set (a ∷ _)) = id_in a
id_at _ = 0

pub asks_for_id : (c : Condition) (id : ℕ) → c.field ≡ field.Id → c.function ≡ function.Equal → c.value ≡ one (Id id) → Asks c id
asks_for_id c id f g v other row h =
    let compared : compares_some function.Equal (cell_of other row field.Id) (one (Id id)) ≡ true =
    sym (λ i. compares_some (g i) (cell_of other row (f i)) (v i)) ∙ h
    in
    ap id_at ((same_datum_exact (one (Id other)) (one (Id id))).0 compared)

-- ---- a test that one identifier alone passes picks that row, or none

abbrev ids : List (Key × Contents) → List ℕ
ids es = map (λ (row : ℕ × Contents). row.0) (map (λ (e : Key × Contents). (e.0.1, e.1)) es)

abbrev ids_in : Table → List (Key × Contents) → List ℕ
ids_in t es = ids (filter (λ e. same_table e.0.0 t) es)

tied : (t : Table) (id : ℕ) (k : Key) → same_table k.0 t ≡ true → k.1 ≡ id → key_cmp (t, id) k ≡ Equal
tied t id k table same =
    let asked : Key = (t, id) in
    let e : asked ≡ k = sym (λ i. (same_table_exact k.0 t table i, same i)) in
    ap (λ (q : Key). key_cmp q k) e ∙ (Equal-is (key_cmp k k)).0 ((eq_by_cmp_equiv key_total).refl k)

apart : {A : Type 0} (r : Ordering) → is_eq r ≡ false → r ≡ Equal → A
apart r e tie = absurd (true≢false (sym (ap is_eq tie) ∙ e))

module _ (t : Table) (id : ℕ) (p : ℕ → Bool) (only : (other : ℕ) → p other ≡ true → other ≡ id) where
  skipped : (e : Key × Contents) (es : List (Key × Contents)) → is_eq (key_cmp (t, id) e.0) ≡ false → filter p (ids_in t (e ∷ es)) ≡ filter p (ids_in t es)
  skipped e es other =
      let rest : List (Key × Contents) = filter (λ e. same_table e.0.0 t) es in
      elim (same_table e.0.0 t) as (λ b. same_table e.0.0 t ≡ b → filter p (ids (cond b (e ∷ rest) rest)) ≡ filter p (ids rest)) [
        | true ↦ λ table.
            elim (p e.0.1) as (λ b. p e.0.1 ≡ b → cond b (e.0.1 ∷ filter p (ids rest)) (filter p (ids rest)) ≡ filter p (ids rest)) [
              | true ↦ λ passes. apart (key_cmp (t, id) e.0) other (tied t id e.0 table (only e.0.1 passes))
              | false ↦ λ _. refl
            ] refl
        | false ↦ λ _. refl
      ] refl

  here : (e : Key × Contents) (es : List (Key × Contents)) → key_cmp (t, id) e.0 ≡ Equal → filter p (ids_in t es) ≡ [] → filter p (ids_in t (e ∷ es)) ≡ cond (p id) (id ∷ []) []
  here e es tie none =
      let asked : Key = (t, id) in
      let k : asked ≡ e.0 = key_exact asked e.0 tie in
      let rest : List (Key × Contents) = filter (λ e. same_table e.0.0 t) es in
      (λ i. filter p (ids_in t ((sym k i, e.1) ∷ es)))
      ∙ ap (λ b. filter p (ids (cond b ((asked, e.1) ∷ rest) rest))) (same_table_itself t)
      ∙ ap (λ ys. cond (p id) (id ∷ ys) ys) none

  picked : (es : List (Key × Contents)) → T (is_sorted key_cmp es) → filter p (ids_in t es) ≡ cond (is_some (find key_cmp (t, id) es)) (cond (p id) (id ∷ []) []) []
  picked [] h = refl
  picked (e ∷ es) h =
      let asked : Key = (t, id) in
      let found : List ℕ = cond (p id) (id ∷ []) [] in
      let rest : filter p (ids_in t es) ≡ cond (is_some (find key_cmp asked es)) found [] = picked es (t_second (below_all key_cmp e.0 es) (is_sorted key_cmp es) h) in
      elim (key_cmp asked e.0) as (λ r. key_cmp asked e.0 ≡ r → filter p (ids_in t (e ∷ es)) ≡ cond (is_some (cond (is_eq r) (Some e.1) (find key_cmp asked es))) found []) [
        | Less ↦ λ is. skipped e es (ap is_eq is) ∙ rest
        | Equal ↦ λ tie. here e es tie (rest ∙ ap (λ o. cond (is_some o) found []) (none_below key_total asked e.0 es tie (t_first (below_all key_cmp e.0 es) (is_sorted key_cmp es) h)))
        | Greater ↦ λ is. skipped e es (ap is_eq is) ∙ rest
      ] refl

there : (cs : List Condition) (id : ℕ) (row : Option Contents) → cond (is_some row) (cond (meets cs id row) (id ∷ []) []) [] ≡ cond (meets cs id row) (id ∷ []) []
there cs id None = refl
there cs id (Some row) = refl

met : (cs : List Condition) (id : ℕ) → AsksFor cs id → (other : ℕ) (row : Option Contents) → meets cs other row ≡ true → other ≡ id
met cs id only other None h = cc
met cs id only other (Some row) h = only other row h

at_most_one : (t : Table) (cs : List Condition) (r : Rows) (id : ℕ) → AsksFor cs id → selected t cs r ≡ cond (meets_at t cs r id) (id ∷ []) []
at_most_one t cs r id only =
    picked t id (meets_at t cs r) (λ other. met cs id only other (row_at r (t, other))) r.rows.list r.rows.sorted ∙ there cs id (row_at r (t, id))

pub one_selected : (t : Table) (cs : List Condition) (r : Rows) (id : ℕ) → AsksFor cs id → meets_at t cs r id ≡ true → id ∷ [] ≡ selected t cs r
one_selected t cs r id only h = sym (at_most_one t cs r id only ∙ ap (λ b. cond b (id ∷ []) []) h)

pub none_selected : (t : Table) (cs : List Condition) (r : Rows) (id : ℕ) → AsksFor cs id → meets_at t cs r id ≡ false → [] ≡ selected t cs r
none_selected t cs r id only h = sym (at_most_one t cs r id only ∙ ap (λ b. cond b (id ∷ []) []) h)
