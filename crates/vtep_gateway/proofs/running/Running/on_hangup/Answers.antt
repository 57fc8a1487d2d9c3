use Rattle.std.proofs.Common.{sym, ap, subst, ◌∙◌}
use Rattle.vtep_gateway.specs.Vtep.{Vtep}
use Rattle.vtep_gateway.specs.Good.{IsGood}
use Rattle.vtep_gateway.specs.Ready.{IsReady, fib_of}
use Rattle.vtep_gateway.specs.Gateway.{Running}
use Rattle.vtep_gateway.specs.Moves.{on_hangup}
use Rattle.vtep_gateway.proofs.Answered.{not_open}
use Rattle.vtep_gateway.proofs.running.Running.on_hangup.Goals as goal

pub returns-then-not-close-clause-ok : goal.returns-then-not-close-clause-ok
returns-then-not-close-clause-ok g c =
    ap (λ (r : Running). on_hangup r.state c.args.session) (sym c.self.view_is)
    ∙ not_open (record { vtep = c.self.inside.vtep; streams = c.self.inside.streams }) c.args.session c.close.new.self (sym c.close.ensures.open ∙ c.if-not-close.true) c.close.ensures.left
    ∙ ap (λ a. record { gateway = record { vtep = c.self.inside.vtep; streams = c.close.new.self }; answer = a }) (sym c.refused.ensures)

pub returns-then-not-close-clause-ready : goal.returns-then-not-close-clause-ready
returns-then-not-close-clause-ready g c =
    let ready = subst IsReady (sym c.self.view_is) c.requires in
    record { good = ready.good; fib = ready.fib }

pub returns-clause-ready : goal.returns-clause-ready
returns-clause-ready g c =
    let ready = subst IsReady (sym c.self.view_is) c.requires in
    record {
      good = subst (λ (v : Vtep). IsGood v.rows v.learned) (sym c.close_monitors.ensures) ready.good;
      fib = ready.fib ∙ ap (λ (v : Vtep). fib_of v.rows v.learned) (sym c.close_monitors.ensures);
    }
