use Rattle.std.proofs.Common.{refl, subst}
use Rattle.std.specs.Prelude.{OnOk}
use Rattle.vtep_gateway.specs.declared.Event.TheVariants as event
use Rattle.fabric_world.specs.declared.Line.TheVariants as lines
use Rattle.fabric_world.specs.Happenings.{event_at}
use Rattle.fabric_world.specs.World.{World}
use Rattle.vtep_fabric.specs.Fabrics.{DoesHappen, Does}
use Rattle.vtep_fabric.proofs.LineEvents.{does}
use Rattle.vtep_fabric.proofs.fabric.Fabric.remove_port.Goals as goal

pub returns : goal.returns
returns c =
    let w : World = record { gateways = c.self.inside.roster; intention = c.self.inside.intention; untouched = c.self.inside.untouched } in
    let line = lines.Unport c.args.line.now in
    let g = c.args.line.now.g in
    let e = event.Unport c.args.line.now.p in
    let new = c.event_at.new.self in
    let text = c.event_at.new.text in
    let ok = subst (λ t. OnOk c.event_at.result (DoesHappen (event_at w.gateways g e) new t text)) c.requires c.event_at.ensures.ok in
    subst (λ h. Does h line (record { world = record w { gateways = new }; stopped = c.self.inside.stopped }) text c.event_at.result) c.self.view_is
    (does w c.self.inside.stopped new line g e text c.event_at.result (λ _. refl) ok c.event_at.ensures.refused)
