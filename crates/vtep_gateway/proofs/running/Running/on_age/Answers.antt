use Rattle.std.proofs.Common.{sym, ap, subst, ◌∙◌}
use Rattle.vtep_gateway.specs.Gateway.{Running}
use Rattle.vtep_gateway.specs.Ready.{IsReady}
use Rattle.vtep_gateway.specs.Learning.{aged}
use Rattle.vtep_gateway.specs.Moves.{settled}
use Rattle.vtep_gateway.proofs.PortAnswers.{settled_answer}
use Rattle.vtep_gateway.proofs.running.Running.on_age.Goals as goal

pub age-requires-clause-fib : goal.age-requires-clause-fib
age-requires-clause-fib g c = (subst IsReady (sym c.self.view_is) c.requires).fib

pub returns-clause-ok : goal.returns-clause-ok
returns-clause-ok g c =
    let v = c.self.inside.vtep in
    ap (λ (r : Running). settled r.state (aged r.state.vtep c.args.seconds)) (sym c.self.view_is)
    ∙ settled_answer (record { vtep = v; streams = c.self.inside.streams }) (aged v c.args.seconds) c.age.new.self c.in_ok-sends.sends c.said.result c.in_ok-sends.ensures.left c.said.ensures
