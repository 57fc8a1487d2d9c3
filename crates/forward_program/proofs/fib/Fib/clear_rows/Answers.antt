use Rattle.std.proofs.Common.{◌∙◌}
use Rattle.vtep_rows.specs.declared.differences.RowChange.{RowChange}
use Rattle.forward_program.specs.Follows.{entries_if, entries_after, was_row, places}
use Rattle.forward_program.proofs.Clearing.{more_stay}
use Rattle.forward_program.proofs.ClearRows.{one_cleared, one_passes, is_item, part_of}
use Rattle.forward_program.proofs.fib.Fib.clear_rows.Goals as goal

pub change-preserved : goal.change-preserved
change-preserved g c = record {
  rows = one_passes c.args.change.now c.change.row-index c.row-item.result c.change-test.true c.row-item.is (λ (r : RowChange). was_row r.old) c.clear_row.ensures.row ∙ c.change.invariant.rows;
  cleared = λ n later. c.change.invariant.cleared n
      (one_cleared c.args.change.now c.change.row-index c.row-item.result c.change-test.true c.row-item.is (λ (r : RowChange). entries_if c.args.own r.table r.id r.old)
      c.change.self.entries c.clear_row.new.self.entries n (places (entries_after c.args.own c.args.change.now))
      (more_stay c.change.self.entries c.clear_row.new.self.entries (places (entries_if c.args.own c.row-item.result.table c.row-item.result.id c.row-item.result.old))
      (places (entries_if c.args.own c.row-item.result.table c.row-item.result.id c.row-item.result.new)) (places (entries_after c.args.own c.args.change.now))
      (part_of (λ (r : RowChange). entries_if c.args.own r.table r.id r.new) c.row-item.result c.args.change.now (is_item c.args.change.now c.change.row-index c.row-item.result c.change-test.true c.row-item.is))
      c.clear_row.ensures.cleared) later);
  same = c.clear_row.ensures.same ∙ c.change.invariant.same;
}
