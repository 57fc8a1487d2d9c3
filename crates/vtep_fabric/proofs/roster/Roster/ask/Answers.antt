use Rattle.std.proofs.Common.{subst}
use Rattle.std.proofs.lemmas.Result.{IfOk-weaker}
use Rattle.vtep_gateway.specs.declared.Event.TheVariants as event
use Rattle.vtep_fabric.specs.Fabrics.{Given}
use Rattle.vtep_fabric.proofs.Happen.{asks}
use Rattle.vtep_fabric.proofs.roster.Roster.ask.Goals as goal

pub returns-in-Some : goal.returns-in-Some
returns-in-Some c =
    let old = c.args.self.now in
    let name = c.args.name.now in
    let request = c.args.request in
    let mid = c.give.new.self in
    let took = subst (Given old name (event.Bytes 0 request) mid) c.in-Some.is c.in_ok-answer.ensures in
    IfOk-weaker c.write_answer.result _ _ (λ _ written. asks old mid name request c.in-Some.answer c.args.text.now c.write_answer.new.text took written) c.write_answer.ensures
