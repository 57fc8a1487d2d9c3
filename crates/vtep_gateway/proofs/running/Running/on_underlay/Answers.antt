use Rattle.std.proofs.Common.{sym, subst}
use Rattle.vtep_rows.proofs.TouchedCollected.{if_ok}
use Rattle.vtep_gateway.specs.Ready.{IsReady}
use Rattle.vtep_gateway.proofs.running.Running.on_underlay.Goals as goal

pub take_packet-requires-clause-fib : goal.take_packet-requires-clause-fib
take_packet-requires-clause-fib g c = (subst IsReady (sym c.self.view_is) c.requires).fib

pub returns-clause-ready : goal.returns-clause-ready
returns-clause-ready g c = if_ok c.take_packet.result (subst IsReady (sym c.self.view_is) c.requires)
