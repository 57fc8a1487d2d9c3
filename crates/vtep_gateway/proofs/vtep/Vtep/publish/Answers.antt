use Rattle.std.proofs.Common.{rules, ◌≡◌, List, OnOk, sym, ap, subst, ◌∙◌}
use Rattle.vtep_rows.specs.Rows.{Rows}
use Rattle.vtep_rows.specs.Changes.{changes}
use Rattle.mac_learning.specs.declared.Learnt.{Learnt}
use Rattle.forward_program.specs.Spots.{State}
use Rattle.forward_program.specs.Follows.{AreMoved}
use Rattle.vtep_gateway.specs.Vtep.{Vtep}
use Rattle.vtep_gateway.specs.Ready.{fib_of}
use Rattle.vtep_gateway.specs.Settled.{IsSettled}
use Rattle.vtep_gateway.proofs.OwnAddress.{has_own}
use Rattle.vtep_gateway.proofs.vtep.Vtep.publish.Goals as goal

pub apply-requires-clause-own : goal.apply-requires-clause-own
apply-requires-clause-own g c =
    let settled : IsSettled c.rows.result.now = search rules in
    has_own c.rows.result.now settled

pub returns-clause-fib : goal.returns-clause-fib
returns-clause-fib g c = λ before known good change moved is.
    let at : c.rows.result.now ≡ c.args.self.now.rows = search rules in
    let list : c.self.inside.learned.entries ≡ c.args.self.now.learned = ap (λ (v : Vtep). v.learned) c.self.view_is in
    subst (λ (p : Rows × List Learnt). OnOk c.apply.result (c.apply.new.self ≡ fib_of p.0 p.1)) (λ i. (at i, list i))
    (c.apply.ensures.state before known good.settled.sound good.local.once (change ∙ ap (changes before) (sym at)) (subst (λ (l : List Learnt). AreMoved known l c.args.moved.now) (sym list) moved) (ap (λ (s : State). s.entries) is))
