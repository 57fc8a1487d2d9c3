use Rattle.local_tables.proofs.Versioned.{flood_added}
use Rattle.local_tables.proofs.adding.add_flood.Goals as goal

pub returns-clause-rows : goal.returns-clause-rows
returns-clause-rows c =
    flood_added c.args.database.now c.insert.new.self c.insert-2.new.self c.args.locator c.args.switch c.in_ok-set.set c.in_ok-row.row c.in_ok-row-2.row c.in_ok-set.ensures.ok c.in_ok-row.ensures c.in_ok-set.ensures.id c.in_ok-row-2.ensures
    c.in_ok-insert.ensures.ok
