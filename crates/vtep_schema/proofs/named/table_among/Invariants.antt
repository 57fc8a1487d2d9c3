use Rattle.std.proofs.Common.{◌≡◌, drop}
use Rattle.vtep_schema.specs.Tables.{named_in, table_name}
use Rattle.vtep_schema.proofs.named.table_among.Given as goal

abbrev pub invariant-among : goal.invariant-among
invariant-among l = named_in table_name l.name l.among ≡ named_in table_name l.name (drop l.table-index l.among)
