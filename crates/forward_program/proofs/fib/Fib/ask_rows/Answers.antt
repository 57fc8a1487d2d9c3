use Rattle.std.proofs.Common.{◌∙◌, ap}
use Rattle.vtep_rows.specs.declared.differences.RowChange.{RowChange}
use Rattle.forward_program.specs.Follows.{remote_addresses, asked}
use Rattle.forward_program.proofs.Asked.{one_asked}
use Rattle.forward_program.proofs.fib.Fib.ask_rows.Goals as goal

pub change-preserved : goal.change-preserved
change-preserved g c = record {
  done = one_asked c.args.learned.now.entries remote_addresses c.change.self.entries c.ask_change.new.self.entries c.args.change.now c.change.row-index c.row-item.result c.change-test.true
      (c.in_ok-ask_change.ensures.ok ∙ ap (λ (r : RowChange). asked c.args.learned.now.entries (remote_addresses r) c.change.self.entries) c.row-item.is) ∙ c.change.invariant.done;
  same = c.ask_change.ensures.same ∙ c.change.invariant.same;
}
