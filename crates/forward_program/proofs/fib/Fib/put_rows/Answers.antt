use Rattle.std.proofs.Common.{◌∙◌, ap}
use Rattle.vtep_rows.specs.declared.differences.RowChange.{RowChange}
use Rattle.vtep_rows.specs.Row.{put_all}
use Rattle.forward_program.specs.Follows.{entries_if}
use Rattle.forward_program.proofs.Puts.{one_put}
use Rattle.forward_program.proofs.fib.Fib.put_rows.Goals as goal

pub change-preserved : goal.change-preserved
change-preserved g c = record {
  put = one_put (λ (r : RowChange). entries_if c.args.own r.table r.id r.new) c.change.self.entries c.put_after.new.self.entries c.args.change.now c.change.row-index c.row-item.result c.change-test.true
      (c.in_ok-put_after.ensures.ok ∙ ap (λ (r : RowChange). put_all c.change.self.entries (entries_if c.args.own r.table r.id r.new)) c.row-item.is) ∙ c.change.invariant.put;
  same = c.put_after.ensures.same ∙ c.change.invariant.same;
}
