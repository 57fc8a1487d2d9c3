use Rattle.std.proofs.Common.{◌≡◌, drop}
use Rattle.vtep_schema.specs.Tables.{named_in, column_name}
use Rattle.vtep_schema.proofs.named.column_among.Given as goal

abbrev pub invariant-among : goal.invariant-among
invariant-among l = named_in column_name l.name l.among ≡ named_in column_name l.name (drop l.column-index l.among)
