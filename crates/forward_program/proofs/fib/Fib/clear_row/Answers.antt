use Rattle.std.proofs.Common.{sym}
use Rattle.forward_program.proofs.ClearRows.{port_cleared}
use Rattle.forward_program.proofs.fib.Fib.clear_row.Goals as goal

pub returns-then-eq-clause-cleared : goal.returns-then-eq-clause-cleared
returns-then-eq-clause-cleared g c =
    port_cleared c.args.self.now.entries c.clear_port.new.self.entries c.args.own c.args.change.now.table c.args.change.now.id c.args.change.now.old c.args.change.now.new _ c.in-Some.old
    (sym c.if-eq.ensures) c.in-Some.is c.as_ref-new.ensures.value (c.clear_port.ensures.cleared c.args.own c.args.change.now.id)
