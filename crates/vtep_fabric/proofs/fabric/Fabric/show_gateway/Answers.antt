use Rattle.std.proofs.Common.{subst}
use Rattle.std.specs.Prelude.{OnOk}
use Rattle.fabric_world.specs.declared.Line.TheVariants as lines
use Rattle.vtep_fabric.specs.Fabrics.{Held, Shows, Does}
use Rattle.vtep_fabric.proofs.LinesDone.{shown}
use Rattle.vtep_fabric.proofs.fabric.Fabric.show_gateway.Goals as goal

pub returns : goal.returns
returns c =
    let h : Held = record { world = record { gateways = c.self.inside.roster; intention = c.self.inside.intention; untouched = c.self.inside.untouched }; stopped = c.self.inside.stopped } in
    let line = c.args.line.now in
    let text = c.show.new.text in
    let ok = subst (λ t. OnOk c.show.result (Shows c.self.inside.roster line.g t text)) c.requires c.show.ensures.ok in
    subst (λ (h : Held). Does h (lines.Show line) h text c.show.result) c.self.view_is (shown h line text c.show.result ok c.show.ensures.refused)
