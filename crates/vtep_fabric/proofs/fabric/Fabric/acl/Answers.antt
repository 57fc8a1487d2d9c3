use Rattle.std.proofs.Common.{[], subst}
use Rattle.fabric_world.specs.declared.fields.AclFields.{AclFields}
use Rattle.fabric_world.specs.declared.Intent.TheVariants as intent
use Rattle.fabric_world.specs.declared.Line.TheVariants as lines
use Rattle.fabric_world.specs.World.{World}
use Rattle.vtep_fabric.specs.Fabrics.{Held, Does}
use Rattle.vtep_fabric.proofs.LinesDone.{wants_or_stops}
use Rattle.vtep_fabric.proofs.fabric.Fabric.acl.Goals as goal

pub returns : goal.returns
returns c =
    let w : World = record { gateways = c.self.inside.roster; intention = c.self.inside.intention; untouched = c.self.inside.untouched } in
    let stopped = c.self.inside.stopped in
    let new = c.add_entry.new.self in
    let to : Held = record { world = record w { intention = new }; stopped = stopped } in
    let done = c.add_entry.result in
    subst (λ (h : Held). Does h (lines.Intend (intent.Acl c.args.name c.args.sequence c.args.direction c.args.action c.args.fields.now)) to [] done) c.self.view_is
    (subst (λ (f : AclFields). Does (record { world = w; stopped = stopped }) (lines.Intend (intent.Acl c.args.name c.args.sequence c.args.direction c.args.action f)) to [] done) c.in_ok-fields.ensures
    (wants_or_stops w stopped new (intent.Acl c.args.name c.args.sequence c.args.direction c.args.action c.in_ok-fields.fields) done
    c.add_entry.ensures.ok c.add_entry.ensures.refused c.add_entry.ensures.kept))
