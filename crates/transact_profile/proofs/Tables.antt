-- What is made of a row is a row of its table.
use Rattle.std.proofs.Common.{◌≡◌, Bool, true, false, List, Some, None, if◌then◌else◌, ap, sym}
use Rattle.ovsdb_values.specs.declared.datums.Datum.{Datum}
use Rattle.vtep_schema.specs.declared.Table.{Table}
use Rattle.vtep_schema.specs.declared.Column.{Column}
use Rattle.vtep_rows.specs.Row.{Contents, changed_row, filled_row}

chosen : (b : Bool) (a r : Contents) → (if b then Some a else None) ≡ Some r → a ≡ r
chosen true a r e = cc
chosen false a r e = cc

pub changed_table : (r n : Contents) (c : Column) (d : Datum) → changed_row r c d ≡ Some n → n.table ≡ r.table
changed_table r n c d e = ap (λ x. x.table) (sym (chosen _ _ n e))

pub filled_table : (t : Table) (es : List (Column × Datum)) (r : Contents) → filled_row t es ≡ Some r → r.table ≡ t
filled_table t es r e = ap (λ x. x.table) (sym (chosen _ _ r e))
