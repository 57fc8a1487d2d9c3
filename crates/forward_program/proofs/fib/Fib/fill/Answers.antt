use Rattle.std.proofs.Common.{◌∙◌}
use Rattle.vtep_schema.specs.declared.Table.TheVariants.{Global}
use Rattle.forward_program.specs.Shown.{table_entries, forward_tables}
use Rattle.forward_program.proofs.Puts.{one_put}
use Rattle.forward_program.proofs.fib.Fib.fill.Goals as goal

pub tables-preserved : goal.tables-preserved
tables-preserved g c = record {
  put = one_put (table_entries c.args.rows.now) c.tables.self.entries c.put_table.new.self.entries forward_tables c.tables.table-index Global c.tables-test.true c.in_ok-put_table.ensures.ok ∙ c.tables.invariant.put;
  same = c.put_table.ensures.same ∙ c.tables.invariant.same;
}
