use Rattle.std.proofs.Common.{sym, ◌∙◌}
use Rattle.vtep_rows.proofs.TouchedCollected.{if_ok}
use Rattle.vtep_gateway.specs.Ready.{fib_of}
use Rattle.vtep_gateway.proofs.vtep.Vtep.called.Goals as goal

pub returns-in-Some-Monitor-clause-fib : goal.returns-in-Some-Monitor-clause-fib
returns-in-Some-Monitor-clause-fib g c =
    if_ok c.monitor.result (c.requires.fib ∙ (λ i. fib_of (sym c.monitor.ensures.rows i) (sym c.monitor.ensures.learned i)))

pub returns-in-Some-MonitorCancel-clause-fib : goal.returns-in-Some-MonitorCancel-clause-fib
returns-in-Some-MonitorCancel-clause-fib g c =
    if_ok c.monitor_cancel.result (c.requires.fib ∙ (λ i. fib_of (sym c.monitor_cancel.ensures.rows i) (sym c.monitor_cancel.ensures.learned i)))
