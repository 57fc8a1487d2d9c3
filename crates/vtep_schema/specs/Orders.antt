-- The orders of tables and columns are total, and only equal ones tie.
use Rattle.std.specs.Cmp.{IsTotalOrder, nat_cmp_total}
use Rattle.std.specs.FinMap.{IsAntisymmetric, nat_cmp-IsAntisymmetric}
use Rattle.std.proofs.lemmas.Cmp.{on_total}
use denote.Enum.Bare.{tag_one}
use Rattle.vtep_schema.specs.contracts.Table as table
use Rattle.vtep_schema.specs.contracts.Column as column
use Rattle.vtep_schema.specs.Tables.{table_cmp, column_cmp, table_place, column_place}

pub table_total : IsTotalOrder table_cmp
table_total = on_total table_place nat_cmp_total

pub table_exact : IsAntisymmetric table_cmp
table_exact a b e = tag_one table.the_type tt a b (nat_cmp-IsAntisymmetric (table_place a) (table_place b) e)

pub column_total : IsTotalOrder column_cmp
column_total = on_total column_place nat_cmp_total

pub column_exact : IsAntisymmetric column_cmp
column_exact a b e = tag_one column.the_type tt a b (nat_cmp-IsAntisymmetric (column_place a) (column_place b) e)
