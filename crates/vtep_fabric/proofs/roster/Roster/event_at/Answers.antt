use Rattle.std.proofs.Common.{sym, ap, subst, ◌∙◌}
use Rattle.vtep_gateway.specs.Gateway.{Answer}
use Rattle.fabric_world.specs.Happenings.{carried_each}
use Rattle.vtep_fabric.specs.Fabrics.{Given, Happens}
use Rattle.vtep_fabric.proofs.Rosters.{known-none}
use Rattle.vtep_fabric.proofs.Happen.{accepts, refuses, stays}
use Rattle.vtep_fabric.proofs.roster.Roster.event_at.Goals as goal

pub returns-in-Some-refused-clause-refused : goal.returns-in-Some-refused-clause-refused
returns-in-Some-refused-clause-refused c =
    let old = c.args.self.now in
    let g = c.args.name.now in
    let e = c.args.event.now in
    let a = c.in-Some.answer in
    let mid = c.give.new.self in
    let why = c.in-Some-refused.why in
    let took = subst (Given old g e mid) c.in-Some.is c.in_ok-answer.ensures in
    let refused = sym (ap (λ (a : Answer). a.refused) c.answer.view_is) ∙ c.in-Some-refused.is in
    rw c.fault_of.ensures (refuses old mid g e a why took refused, stays old mid g e a why took refused)

pub returns-clause-ok : goal.returns-clause-ok
returns-clause-ok c =
    let old = c.args.self.now in
    let g = c.args.name.now in
    let e = c.args.event.now in
    let a = c.in-Some.answer in
    let mid = c.give.new.self in
    let new = c.carry_each.new.self in
    let written = c.write_answer.new.text in
    let took = subst (Given old g e mid) c.in-Some.is c.in_ok-answer.ensures in
    let accepted = sym (ap (λ (a : Answer). a.refused) c.answer.view_is) ∙ known-none c.answer.inside.refused c.in_default-refused.not-Some in
    let packets = c.as_slice.ensures ∙ c.packets.ensures ∙ ap (λ (a : Answer). a.sent.packets) c.answer.view_is in
    accepts old mid new g e a c.args.text.now written c.carry_each.new.text took accepted c.in_ok-write_answer.ensures
    (subst (λ ps. Happens (carried_each mid ps) new written c.carry_each.new.text) packets c.in_ok-carry_each.ensures)
