use Rattle.std.proofs.Common.{[], subst}
use Rattle.fabric_world.specs.declared.Intent.TheVariants as intent
use Rattle.fabric_world.specs.declared.Line.TheVariants as lines
use Rattle.fabric_world.specs.World.{World}
use Rattle.vtep_fabric.specs.Fabrics.{Held, Does}
use Rattle.vtep_fabric.proofs.LinesDone.{wants_anyway}
use Rattle.vtep_fabric.proofs.fabric.Fabric.switch.Goals as goal

pub returns : goal.returns
returns c =
    let w : World = record { gateways = c.self.inside.roster; intention = c.self.inside.intention; untouched = c.self.inside.untouched } in
    let new = c.add_switch.new.self in
    let to : Held = record { world = record w { intention = new }; stopped = c.self.inside.stopped } in
    let line = intent.Switch c.args.name c.args.vni c.args.mode in
    let done = c.add_switch.result in
    subst (λ (h : Held). Does h (lines.Intend line) to [] done) c.self.view_is
    (wants_anyway w c.self.inside.stopped new line done c.add_switch.ensures.ok c.add_switch.ensures.refused c.add_switch.ensures.kept)
