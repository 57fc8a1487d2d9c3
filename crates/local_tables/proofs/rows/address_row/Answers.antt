use Rattle.vtep_schema.specs.declared.Table.TheVariants.{UcastMacsLocal}
use Rattle.local_tables.specs.LocalRows.{address_values}
use Rattle.local_tables.proofs.RowsMade.{not_refused, address_is_row}
use Rattle.local_tables.proofs.rows.address_row.Goals as goal

pub made-requires : goal.made-requires
made-requires c =
    not_refused c.filled.result UcastMacsLocal c.in_ok-values.values (address_values (c.args.switch, c.args.mac) c.args.locator) c.filled.ensures.err c.in_ok-values.ensures
    (address_is_row (c.args.switch, c.args.mac) c.args.locator c.requires)
