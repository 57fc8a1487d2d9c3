-- The rows of a table that differ, and those that do not.
use Rattle.std.proofs.Common.{◌≡◌, ◌⊎◌, inl, inr, ℕ, [], subst}
use Rattle.std.specs.List.{filter}
use Rattle.vtep_schema.specs.declared.Table.{Table}
use Rattle.vtep_schema.specs.Tables.{same_table}
use Rattle.vtep_rows.specs.declared.differences.RowChange.{RowChange}
use Rattle.vtep_rows.specs.Rows.{Rows, row_at}
use Rattle.vtep_rows.specs.Changes.{changes}
use Rattle.vtep_rows.proofs.Kept.{same_table_itself}
use Rattle.forward_program.specs.Built.{IsIn}
use Rattle.forward_program.proofs.InLists.{map_in}
use Rattle.forward_program.proofs.InChange.{one_at, same_or_changed}
use Rattle.local_tables.specs.Following.{differing}
use Rattle.local_tables.proofs.Members.{filter_in}
use Rattle.local_tables.proofs.Same.{SameTable}

module _ (old r : Rows) (t : Table) where
  pub same_or_differing : (i : ℕ) → (row_at old (t, i) ≡ row_at r (t, i)) ⊎ IsIn i (differing t old r)
  same_or_differing i = elim (same_or_changed old r (t, i)) [
    | inl same ↦ inl same
    | inr changed ↦ inr (map_in (λ (c : RowChange). c.id) (one_at old r (t, i)) (filter (λ c. same_table c.table t) (changes old r)) (filter_in (λ c. same_table c.table t) (changes old r) (one_at old r (t, i)) changed (same_table_itself t)))
  ]

  -- where none differs
  pub none_differs : differing t old r ≡ [] → SameTable t old r
  none_differs none i = elim (same_or_differing i) [
    | inl same ↦ same
    | inr changed ↦ absurd (subst (IsIn i) none changed)
  ]
