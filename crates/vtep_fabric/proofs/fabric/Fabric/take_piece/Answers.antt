use Rattle.std.proofs.Common.{◌≡◌, [], refl, sym, ap, subst, ◌∙◌}
use Rattle.vtep_base.specs.Reading.{Bytes}
use Rattle.vtep_gateway.specs.declared.Event.{Event}
use Rattle.vtep_gateway.specs.declared.Event.TheVariants as event
use Rattle.fabric_world.specs.declared.Line.TheVariants as lines
use Rattle.fabric_world.specs.Happenings.{event_at}
use Rattle.fabric_world.specs.World.{World, touched}
use Rattle.vtep_fabric.specs.Fabrics.{Held, DoesHappen, Runs}
use Rattle.vtep_fabric.proofs.LineEvents.{follows, ran}
use Rattle.vtep_fabric.proofs.fabric.Fabric.take_piece.Goals as goal

pub returns : goal.returns
returns c =
    let w : World = record { gateways = c.self.inside.roster; intention = c.self.inside.intention; untouched = c.self.inside.untouched } in
    let line = lines.Rpc c.args.line.now in
    let g = c.args.line.now.g in
    let taken : Bytes → Event = λ bytes. event.Bytes c.args.line.now.session bytes in
    let e = taken c.in_ok-from_slice.field-0 in
    let new = c.event_at.new.self in
    let text = c.event_at.new.text in
    let after : World = record (touched w) { gateways = new } in
    let is = ap (λ bytes. follows (touched w) (event_at w.gateways g (taken bytes))) (sym (c.in_ok-from_slice.ensures ∙ c.as_slice.ensures)) in
    let happens = subst (λ t. DoesHappen (event_at w.gateways g e) new t text) c.requires c.in_ok-event_at.ensures.ok in
    subst (λ (h : Held). Runs h.world line after [] text × (c.self.inside.stopped ≡ h.stopped)) c.self.view_is
    (ran w (touched w) line (event_at w.gateways g e) new text is happens, refl)
