use Rattle.std.proofs.Common.{sym, ap, subst}
use Rattle.ether_frames.specs.Headers.{headers_of}
use Rattle.forward_program.specs.Spots.{State}
use Rattle.vtep_gateway.specs.Frames.{ways}
use Rattle.vtep_gateway.specs.Ready.{IsReady}
use Rattle.vtep_gateway.proofs.Admitted.{admitted_bound}
use Rattle.vtep_gateway.proofs.running.Running.enter.Goals as goal

pub learn-requires-clause-fib : goal.learn-requires-clause-fib
learn-requires-clause-fib g c = (subst IsReady (sym c.self.view_is) c.requires.ready).fib

pub learn-requires-clause-bound : goal.learn-requires-clause-bound
learn-requires-clause-bound g c =
    let ready = subst IsReady (sym c.self.view_is) c.requires.ready in
    let v = c.self.inside.vtep in
    admitted_bound (ways v) (c.args.port.now, c.args.vlan) (headers_of c.args.inner.now) ((ways v).bound (c.args.port.now, c.args.vlan)) _
    (sym (c.in-To.ensures.built v.rows v.learned ready.good.settled.rows ready.good.settled.sound ready.good.local.once (ap (λ (s : State). s.entries) ready.fib)))
