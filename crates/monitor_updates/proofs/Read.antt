-- Rows that calls reach are read from what is written of them.
use Rattle.std.proofs.Common.{◌≡◌, true, ◌&&◌, sym, subst, arith}
use Rattle.std.specs.Prelude.{ℕ, ◌<◌, ◌^◌, ◌%◌, nat_le}
use Rattle.std.specs.Cmp.{Equal-is, second_so}
use Rattle.std.proofs.lemmas.Bool.Decides.{Decides-eqb}
use Rattle.vtep_schema.specs.Tables.{same_table, table_cmp}
use Rattle.vtep_schema.specs.Orders.{table_exact}
use Rattle.vtep_rows.specs.Row.{is_row}
use Rattle.vtep_rows.specs.Rows.{Rows, IsRows, is_given, row_id}
use Rattle.vtep_rows.specs.Orders.{key_exact}
use Rattle.vtep_rows.proofs.Entries.{found}
use Rattle.monitor_updates.specs.Noted.{IsWritable}
use Rattle.monitor_updates.proofs.Follow.{Readable}

small : (made n : ℕ) → made < 2 ^ 32 → row_id made n < 2 ^ 128
small made n fits = omega arith

given_small : (r : Rows) (id : ℕ) → r.made < 2 ^ 32 → is_given r id ≡ true → id < 2 ^ 128
given_small r id fits given =
    let is : id ≡ row_id r.made (id % 2 ^ 62) = (Decides-eqb id (row_id r.made (id % 2 ^ 62))).0 (second_so (nat_le 1 (id % 2 ^ 62) && nat_le (id % 2 ^ 62) r.counter) _ given) in
    subst (λ n. n < 2 ^ 128) (sym is) (small r.made (id % 2 ^ 62) fits)

pub readable : (r : Rows) → IsRows r → IsWritable r → Readable r.rows
readable r is writable = record {
  rows = λ k row e. record {
    table = sym (table_exact k.0 row.table ((Equal-is (table_cmp k.0 row.table)).0 (found key_exact (λ x. same_table x.0.0 x.1.table) k row r.rows.list is.tables e)));
    row = found key_exact (λ x. is_row x.1) k row r.rows.list is.contents e;
    forms = writable k row e;
  };
  ids = λ k row e. given_small r k.1 is.address (found key_exact (λ x. is_given r x.0.1) k row r.rows.list is.identifiers e);
}
