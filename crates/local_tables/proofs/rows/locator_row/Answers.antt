use Rattle.vtep_schema.specs.declared.Table.TheVariants.{PhysicalLocator}
use Rattle.local_tables.specs.LocalRows.{locator_values}
use Rattle.local_tables.proofs.RowsMade.{not_refused, locator_is_row}
use Rattle.local_tables.proofs.rows.locator_row.Goals as goal

pub made-requires : goal.made-requires
made-requires c = not_refused c.filled.result PhysicalLocator c.in_ok-values.values (locator_values c.args.ip) c.filled.ensures.err c.in_ok-values.ensures (locator_is_row c.args.ip c.requires)
