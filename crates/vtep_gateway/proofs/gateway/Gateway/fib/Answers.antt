use Rattle.std.proofs.Common.{ap, ◌∙◌}
use Rattle.vtep_gateway.specs.Gateway.{Held}
use Rattle.vtep_gateway.specs.Ready.{fib_of}
use Rattle.vtep_gateway.proofs.gateway.Gateway.fib.Goals as goal

pub returns : goal.returns
returns g c = λ going.
    c.fib.ensures ∙ (c.self.invariant (ap (λ (h : Held). h.stopped) c.self.view_is ∙ going)).fib ∙ ap (λ (h : Held). fib_of h.state.vtep.rows h.state.vtep.learned) c.self.view_is
