-- The rows that are in the list of a table.
use Rattle.std.proofs.Common.{◌≡◌, inl, inr, ℕ, Bool, true, false, cond, List, [], ◌∷◌, map, Some, refl, sym, ap, ◌∙◌, subst}
use Rattle.std.specs.List.{filter}
use Rattle.std.specs.Ordering.{eq_by_cmp}
use Rattle.std.specs.Cmp.{Equal-is}
use Rattle.std.specs.FinMap.{find}
use Rattle.vtep_schema.specs.declared.Table.{Table}
use Rattle.vtep_schema.specs.Tables.{same_table}
use Rattle.vtep_rows.specs.Row.{Contents}
use Rattle.vtep_rows.specs.Rows.{Rows, Key, key_cmp, rows_of, row_at}
use Rattle.vtep_rows.specs.Orders.{key_exact}
use Rattle.vtep_rows.proofs.Entries.{same_some}
use Rattle.vtep_rows.proofs.Kept.{same_table_itself}
use Rattle.forward_program.specs.Built.{IsIn}
use Rattle.forward_program.proofs.RowsThere.{AreThere, rows_there}

module _ (r : Rows) (t : Table) where
  there_in : (es : List (ℕ × Contents)) → AreThere r t es → (e : ℕ × Contents) → IsIn e es → row_at r (t, e.0) ≡ Some e.1
  there_in [] there e h = absurd h
  there_in (d ∷ es) there e (inl same) = subst (λ (x : ℕ × Contents). row_at r (t, x.0) ≡ Some x.1) (sym same) there.0
  there_in (d ∷ es) there e (inr h) = there_in es there.1 e h

  pub in_rows : (e : ℕ × Contents) → IsIn e (rows_of t r) → row_at r (t, e.0) ≡ Some e.1
  in_rows e h = there_in (rows_of t r) (rows_there r t) e h

  abbrev entry : Key × Contents → ℕ × Contents
  entry e = (e.0.1, e.1)

  here : (id : ℕ) (row : Contents) (e : Key × Contents) (rest : List (Key × Contents)) → (t, id) ≡ e.0 → e.1 ≡ row → IsIn (id, row) (map entry (cond (same_table e.0.0 t) (e ∷ rest) rest))
  here id row e rest same value =
      subst (λ b. IsIn (id, row) (map entry (cond b (e ∷ rest) rest))) (sym (ap (λ (k : Key). same_table k.0 t) (sym same) ∙ same_table_itself t)) (inl (λ i. ((same i).1, sym value i)))

  later : (x : ℕ × Contents) (e : Key × Contents) (rest : List (Key × Contents)) → IsIn x (map entry rest) → IsIn x (map entry (cond (same_table e.0.0 t) (e ∷ rest) rest))
  later x e rest h = elim (same_table e.0.0 t) as (λ b. IsIn x (map entry (cond b (e ∷ rest) rest))) [ true ↦ inr h | false ↦ h ]

  listed : (id : ℕ) (row : Contents) (es : List (Key × Contents)) → find key_cmp (t, id) es ≡ Some row → IsIn (id, row) (map entry (filter (λ e. same_table e.0.0 t) es))
  listed id row [] is = cc
  listed id row (e ∷ es) is = by (eq_by_cmp key_cmp (t, id) e.0) refl (listed id row es) is
    where
      by : (b : Bool) → eq_by_cmp key_cmp (t, id) e.0 ≡ b → (find key_cmp (t, id) es ≡ Some row → IsIn (id, row) (map entry (filter (λ d. same_table d.0.0 t) es))) → cond b (Some e.1) (find key_cmp (t, id) es) ≡ Some row
          → IsIn (id, row) (map entry (filter (λ d. same_table d.0.0 t) (e ∷ es)))
      by true tie rest found = here id row e (filter (λ d. same_table d.0.0 t) es) (key_exact (t, id) e.0 ((Equal-is (key_cmp (t, id) e.0)).0 tie)) (same_some e.1 row found)
      by false tie rest found = later (id, row) e (filter (λ d. same_table d.0.0 t) es) (rest found)

  pub rows_in : (id : ℕ) (row : Contents) → row_at r (t, id) ≡ Some row → IsIn (id, row) (rows_of t r)
  rows_in id row is = listed id row r.rows.list is
