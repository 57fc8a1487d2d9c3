use Rattle.std.proofs.Common.{◌≡◌, Bool, [], sym, subst}
use Rattle.vtep_base.specs.Reading.{Bytes}
use Rattle.fabric_world.specs.declared.Intent.TheVariants as intent
use Rattle.fabric_world.specs.declared.Line.TheVariants as lines
use Rattle.fabric_world.specs.World.{World}
use Rattle.vtep_fabric.specs.Fabrics.{Held, Does}
use Rattle.vtep_fabric.proofs.LinesDone.{wants}
use Rattle.vtep_fabric.proofs.fabric.Fabric.bind.Goals as goal

pub returns : goal.returns
returns c =
    let w : World = record { gateways = c.self.inside.roster; intention = c.self.inside.intention; untouched = c.self.inside.untouched } in
    let new = c.bind.new.self in
    let to : Held = record { world = record w { intention = new }; stopped = c.self.inside.stopped } in
    let line = intent.Bind c.args.switch c.args.binding.gateway c.args.binding.port c.args.binding.vlan in
    let done = c.bind.result in
    subst (λ (h : Held). Does h (lines.Intend line) to [] done) c.self.view_is
    (wants w c.self.inside.stopped new line (λ (knows : Bytes → Bool). knows c.args.binding.gateway ≡ c.knows-is_known.result) done (sym c.knows-is_known.ensures)
    c.bind.ensures.ok c.bind.ensures.refused c.bind.ensures.kept)
