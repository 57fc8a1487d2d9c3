use Rattle.std.proofs.Common.{◌≡◌, ◌++◌, map, drop}
use Rattle.vtep_schema.specs.Tables.{columns_of}
use Rattle.transact_profile.specs.declared.operations.Field.TheVariants.{Of}
use Rattle.transact_profile.proofs.parts.all_fields.Given as goal

abbrev pub invariant-columns : goal.invariant-columns
invariant-columns l = l.fields ++ map Of (drop l.column-index l.column-items) ≡ map Of (columns_of l.fn.table)
