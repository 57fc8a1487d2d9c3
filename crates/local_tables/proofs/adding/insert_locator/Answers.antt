use Rattle.local_tables.specs.LocalRows.{locator_row}
use Rattle.local_tables.proofs.Versioned.{inserted_one}
use Rattle.local_tables.proofs.adding.insert_locator.Goals as goal

pub returns-clause-rows : goal.returns-clause-rows
returns-clause-rows c = inserted_one c.args.database.now c.insert.new.self c.in_ok-row.row (locator_row c.args.own) c.in_ok-id.ensures.ok c.in_ok-row.ensures
