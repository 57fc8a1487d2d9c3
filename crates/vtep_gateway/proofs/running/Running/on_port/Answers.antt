use Rattle.std.proofs.Common.{sym, ap, subst, ◌∙◌}
use Rattle.vtep_gateway.specs.Gateway.{Running}
use Rattle.vtep_gateway.specs.Vtep.{Vtep}
use Rattle.vtep_gateway.specs.Good.{IsGood}
use Rattle.vtep_gateway.specs.Ready.{IsReady, fib_of}
use Rattle.vtep_gateway.specs.Moves.{on_port}
use Rattle.vtep_gateway.proofs.PortAnswers.{joined_answer, not_joined}
use Rattle.vtep_gateway.proofs.running.Running.on_port.Given as given
use Rattle.vtep_gateway.proofs.running.Running.on_port.Goals as goal
use Rattle.vtep_gateway.proofs.running.Running.on_port.Goals.{in-Ok, in-Err-Refused, in-Err-OutOfMemory}

ready : (g : given.Over) (c : goal.Joined-add_port g) → IsReady (record { state = record { vtep = c.self.inside.vtep; streams = c.self.inside.streams }; fib = c.self.inside.fib })
ready g c = subst IsReady (sym c.self.view_is) c.requires

pub returns-clause-ok : goal.returns-clause-ok
returns-clause-ok g c =
    elim c.match-add_port.branch [
      | in-Ok w ↦
          rw w.result-is (ap (λ (r : Running). on_port r.state c.args.name.now) (sym c.self.view_is)
          ∙ joined_answer (record { vtep = c.self.inside.vtep; streams = c.self.inside.streams }) c.args.name.now c.add_port.new.self w.in-Ok.sends w.said.result w.in-Ok.ensures.free w.in-Ok.ensures.left w.said.ensures)
      | in-Err-Refused w ↦
          let p = rw w.in-Err-Refused.field-0-is at w.in-Err-Refused.ensures.refused in
          rw w.result-is (ap (λ (r : Running). on_port r.state c.args.name.now) (sym c.self.view_is)
          ∙ not_joined (record { vtep = c.self.inside.vtep; streams = c.self.inside.streams }) c.args.name.now c.add_port.new.self w.in-Err-Refused.why w.refused.result p.0 p.1 w.refused.ensures)
      | in-Err-OutOfMemory w ↦ rw w.result-is tt
    ]

pub add_port-requires-clause-fib : goal.add_port-requires-clause-fib
add_port-requires-clause-fib g c = (subst IsReady (sym c.self.view_is) c.requires).fib

pub returns-clause-ready : goal.returns-clause-ready
returns-clause-ready g c =
    elim c.match-add_port.branch [
      | in-Ok w ↦ rw w.result-is (record { good = w.in-Ok.ensures.good; fib = w.in-Ok.ensures.fib })
      | in-Err-Refused w ↦
          let p = rw w.in-Err-Refused.field-0-is at w.in-Err-Refused.ensures.refused in
          rw w.result-is (record {
            good = subst (λ (v : Vtep). IsGood v.rows v.learned) (sym p.1) (ready g c).good;
            fib = p.2 ∙ (ready g c).fib ∙ ap (λ (v : Vtep). fib_of v.rows v.learned) (sym p.1);
          })
      | in-Err-OutOfMemory w ↦ rw w.result-is tt
    ]
