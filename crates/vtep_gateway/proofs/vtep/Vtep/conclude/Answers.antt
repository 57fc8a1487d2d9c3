use Rattle.std.proofs.Common.{◌≡◌, List, sym, ap, subst, ◌∙◌}
use Rattle.vtep_rows.specs.Changes.{changes}
use Rattle.mac_learning.specs.declared.Learnt.{Learnt}
use Rattle.forward_program.specs.Follows.{AreMoved}
use Rattle.local_tables.specs.Following.{without_all}
use Rattle.vtep_gateway.specs.Vtep.{Vtep}
use Rattle.vtep_gateway.proofs.Moved.{gone_moved}
use Rattle.vtep_gateway.proofs.vtep.Vtep.conclude.Goals as goal

pub returns-clause-fib : goal.returns-clause-fib
returns-clause-fib g c = λ before good change is.
    let l : List Learnt = c.args.self.now.learned in
    let list : c.evict.new.self.learned ≡ without_all c.args.kept.gone l = ap (λ (v : Vtep). v.learned) c.evict.ensures ∙ ap (λ gone. without_all gone l) c.as_slice.ensures in
    c.publish.ensures.fib before l good (change ∙ ap (λ (v : Vtep). changes before v.rows) (sym c.evict.ensures))
    (subst (λ (p : List Learnt × List Learnt). AreMoved l p.0 p.1) (λ i. (sym list i, sym c.as_slice-2.ensures i)) (gone_moved l c.args.kept.gone)) is
