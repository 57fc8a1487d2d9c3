use Rattle.std.proofs.Common.{Some, None, ◌++◌, find, option_map, sym, ap, subst, ◌∙◌, append-nil}
use Rattle.std.proofs.lemmas.Result.{IfOk-weaker}
use Rattle.vtep_gateway.specs.declared.Event.TheVariants as event
use Rattle.fabric_world.specs.Outputs.{Lost, output_text}
use Rattle.fabric_world.specs.Happenings.{has_ip, destination}
use Rattle.vtep_fabric.specs.Fabrics.{Given, Took}
use Rattle.vtep_fabric.proofs.Carried.{lost, comes, not_absent}
use Rattle.vtep_fabric.proofs.roster.Roster.carry.Goals as goal

pub returns-in_default : goal.returns-in_default
returns-in_default c =
    let gs = c.args.self.now in
    let packet = c.args.packet.now in
    let before = c.args.text.now in
    let ip = c.destination-ip in
    let nobody = ap (λ ip. option_map (λ e. e.0) (find (has_ip ip) gs.list)) (sym ip.ensures) ∙ sym c.at_ip.ensures ∙ c.in_default.is in
    IfOk-weaker c.write_lost.result _ _
    (λ _ written. lost gs packet before c.write_lost.new.text nobody
    (written ∙ ap (λ ip. before ++ output_text (Lost ip)) ip.ensures ∙ ap (λ t. before ++ t) (sym (append-nil (output_text (Lost (destination packet)))))))
    c.write_lost.ensures

pub returns-in-Some-2 : goal.returns-in-Some-2
returns-in-Some-2 c =
    let gs = c.args.self.now in
    let packet = c.args.packet.now in
    let name = c.in-Some.name in
    let mid = c.give.new.self in
    let a = c.in-Some-2.answer in
    let bytes = c.in_ok-from_slice.field-0 in
    let there = ap (λ ip. option_map (λ e. e.0) (find (has_ip ip) gs.list)) (sym c.destination-ip.ensures) ∙ sym c.at_ip.ensures ∙ c.in-Some.is in
    let given = subst (Given gs name (event.Underlay bytes) mid) c.in-Some-2.is c.in_ok-answer.ensures in
    let took = subst (λ b. Took gs name (event.Underlay b) mid a) (c.in_ok-from_slice.ensures ∙ c.as_slice.ensures) given in
    IfOk-weaker c.write_answer.result _ _ (λ _ written. comes gs mid packet name a c.args.text.now c.write_answer.new.text there took written) c.write_answer.ensures

pub returns : goal.returns
returns c =
    let gs = c.args.self.now in
    let name = c.in-Some.name in
    let there = ap (λ ip. option_map (λ e. e.0) (find (has_ip ip) gs.list)) (sym c.destination-ip.ensures) ∙ sym c.at_ip.ensures ∙ c.in-Some.is in
    let given = subst (Given gs name (event.Underlay c.in_ok-from_slice.field-0) c.give.new.self) c.in-None.is c.in_ok-answer.ensures in
    absurd (not_absent gs (has_ip (destination c.args.packet.now)) name there given.0)
