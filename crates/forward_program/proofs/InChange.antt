-- Rows that a change has differ, and those that it has not are the same.
use Rattle.std.proofs.Common.{◌≡◌, ◌⊎◌, inl, inr, Bool, true, false, cond, not, ◌&&◌, List, Option, Some, None, refl, sym, ap, ◌∙◌, subst}
use Rattle.std.specs.Bool.{Decides}
use Rattle.std.specs.Cmp.{eq_by_cmp_equiv, first_so, second_so}
use Rattle.std.specs.Cmp.Lexicographic.{pointwise_decides}
use Rattle.vtep_base.specs.Maps as maps
use Rattle.ovsdb_values.specs.declared.datums.Datum.{Datum}
use Rattle.ovsdb_values.specs.Exact.{same_datum_exact}
use Rattle.ovsdb_values.specs.Sets.{same_datum}
use Rattle.vtep_schema.specs.declared.Column.{Column}
use Rattle.vtep_schema.specs.Tables.{same_table, same_column}
use Rattle.vtep_schema.specs.Orders.{column_total}
use Rattle.vtep_rows.specs.declared.differences.RowChange.{RowChange}
use Rattle.vtep_rows.specs.Row.{Contents, same_row, same_fields}
use Rattle.vtep_rows.specs.Rows.{Key, Rows, row_at}
use Rattle.vtep_rows.specs.Orders.{key_exact}
use Rattle.vtep_rows.specs.Changes.{differ, change_at, changes, keys_of_both}
use Rattle.vtep_rows.proofs.Entries.{both, same_some}
use Rattle.vtep_rows.proofs.Kept.{same_table_exact, same_table_itself}
use Rattle.vtep_rows.proofs.RowLaws.{same_column_exact}
use Rattle.vtep_rows.proofs.ChangeProofs.{wanted, wanted_at, values-keyed}
use Rattle.forward_program.specs.Built.{IsIn}
use Rattle.forward_program.proofs.InLists.{in_picked, map_in}
use Rattle.forward_program.proofs.MapLists.{get_in}

-- ---- the same row

field_exact : (a b : Column × Datum) → Decides (same_column a.0 b.0 && same_datum a.1 b.1) (a ≡ b)
field_exact a b = (
  λ h i. (same_column_exact a.0 b.0 (first_so (same_column a.0 b.0) (same_datum a.1 b.1) h) i, (same_datum_exact a.1 b.1).0 (second_so (same_column a.0 b.0) (same_datum a.1 b.1) h) i),
  λ e. both (same_column a.0 b.0) (same_datum a.1 b.1) (ap (λ x. same_column a.0 x.0) (sym e) ∙ (eq_by_cmp_equiv column_total).refl a.0) ((same_datum_exact a.1 b.1).1 (ap (λ x. x.1) e)),
)

same_row_exact : (a b : Contents) → same_row a b ≡ true → a ≡ b
same_row_exact a b h =
    let table = same_table_exact a.table b.table (first_so (same_table a.table b.table) (same_fields a.values b.values) h) in
    let values = maps.same_list a.values b.values ((pointwise_decides field_exact a.values.list b.values.list).0 (second_so (same_table a.table b.table) (same_fields a.values b.values) h)) in
    λ i. record { table = table i; values = values i }

same_row_itself : (a : Contents) → same_row a a ≡ true
same_row_itself a = both (same_table a.table a.table) (same_fields a.values a.values) (same_table_itself a.table) ((pointwise_decides field_exact a.values.list a.values.list).1 refl)

not_not : (b : Bool) → not b ≡ false → b ≡ true
not_not true e = refl
not_not false e = sym e

none_differ : (o p : Option Contents) → differ o p ≡ false → o ≡ p
none_differ None None e = refl
none_differ None (Some b) e = cc
none_differ (Some a) None e = cc
none_differ (Some a) (Some b) e = ap Some (same_row_exact a b (not_not (same_row a b) e))

not_itself : (o : Option Contents) → differ o o ≡ true → ⊥
not_itself None e = cc
not_itself (Some a) e = let f : false ≡ true = ap not (sym (same_row_itself a)) ∙ e in cc

pub never_same : (o p : Option Contents) → o ≡ p → differ o p ≡ true → ⊥
never_same o p e d = not_itself p (ap (λ x. differ x p) (sym e) ∙ d)

-- ---- the change

module _ (before now : Rows) where
  -- a row of the change is what it was, and what it is
  abbrev pub IsOne : RowChange → Type 0
  IsOne c = (c.old ≡ row_at before (c.table, c.id)) × (c.new ≡ row_at now (c.table, c.id)) × (differ c.old c.new ≡ true)

  abbrev pub one_at : Key → RowChange
  one_at k = record { table = k.0; id = k.1; old = row_at before k; new = row_at now k }

  pub one_is : (c : RowChange) → IsIn c (changes before now) → IsOne c
  one_is c h = let p = in_picked (change_at before now) c (keys_of_both before now) h in by p.0 (differ (row_at before p.0) (row_at now p.0)) refl p.2
    where
      by : (k : Key) (b : Bool) → differ (row_at before k) (row_at now k) ≡ b → cond b (Some (one_at k)) None ≡ Some c → IsOne c
      by k true d e = subst IsOne (same_some (one_at k) c e) (refl, refl, d)
      by k false d e = cc

  found : (k : Key) → differ (row_at before k) (row_at now k) ≡ true → IsIn (one_at k) (changes before now)
  found k d =
      let there : maps.get (wanted before now) k ≡ Some (one_at k) = wanted_at before now k ∙ ap (λ b. cond b (Some (one_at k)) None) d in
      subst (λ (cs : List RowChange). IsIn (one_at k) cs) (values-keyed (change_at before now) (keys_of_both before now))
      (map_in (λ (e : Key × RowChange). e.1) (k, one_at k) (wanted before now).list (get_in key_exact (wanted before now) k (one_at k) there))

  pub same_or_changed : (k : Key) → (row_at before k ≡ row_at now k) ⊎ IsIn (one_at k) (changes before now)
  same_or_changed k = by (differ (row_at before k) (row_at now k)) refl
    where
      by : (b : Bool) → differ (row_at before k) (row_at now k) ≡ b → (row_at before k ≡ row_at now k) ⊎ IsIn (one_at k) (changes before now)
      by true d = inr (found k d)
      by false d = inl (none_differ (row_at before k) (row_at now k) d)
