use Rattle.std.proofs.Common.{◌∙◌}
use Rattle.vtep_rows.specs.Rows.{collected}
use Rattle.vtep_rows.proofs.TouchedCollected.{one_table, still_formed, is_whole, whole_rows, same_versions}
use Rattle.vtep_rows.proofs.database.Database.collect.Goals as goal

pub tables-preserved : goal.tables-preserved
tables-preserved c = record {
  committed = c.in_ok-collect_table.ensures.committed ∙ c.tables.invariant.committed;
  current = still_formed c.collect_table.new.self.current c.tables.self.current c.args.self.now.current c.in_ok-collect_table.ensures.current c.tables.invariant.current;
  rows =
      one_table c.args.self.now.current.rows c.tables.self.current.rows c.collect_table.new.self.current.rows c.tables-table-items.result.now c.tables.table-index _ c.tables.candidates.keys c.collect_table.new.candidates.keys
      c.tables-table-items.ensures c.tables-test.true c.tables.invariant.rows (c.in_ok-collect_table.ensures.rows c.args.self.now.current.rows);
}

pub returns : goal.returns
returns c =
    same_versions c.tables.self c.args.self.now (collected c.args.self.now.current) c.tables.invariant.committed
    (whole_rows c.tables.self.current c.args.self.now.current c.tables.invariant.current
    (is_whole c.args.self.now.current c.tables.self.current.rows c.tables.candidates.keys c.tables-table-items.result.now c.tables.table-index c.tables-table-items.ensures c.tables-test.false c.candidates.ensures.rows c.tables.invariant.rows))
