use Rattle.std.proofs.Common.{◌≡◌, true, false, [], ◌++◌, sym, ap, subst}
use Rattle.std.specs.Prelude.{codes}
use Rattle.fabric_world.specs.declared.Line.TheVariants as lines
use Rattle.fabric_world.specs.Happenings.{settled}
use Rattle.fabric_world.specs.World.{World}
use Rattle.vtep_fabric.specs.Fabrics.{Runs, Happens}
use Rattle.vtep_fabric.proofs.Settles.{settles}
use Rattle.vtep_fabric.proofs.fabric.Fabric.install.Goals as goal

pub returns : goal.returns
returns c =
    let w : World = record { gateways = c.self.inside.roster; intention = c.self.inside.intention; untouched = c.self.inside.untouched } in
    let line = c.args._line.now in
    let text = c.install.new.text in
    let after : World = record w { gateways = c.install.new.self; untouched = false } in
    let untouched : c.self.inside.untouched ≡ true = c.if-not-self.false in
    let installs = subst (λ t. Happens (settled w.intention w.gateways) c.install.new.self t text) c.requires c.in_ok-install.ensures in
    let ran : Runs w (lines.Settle line) after [] (text ++ codes "settled\n") = settles w line c.install.new.self text untouched installs in
    let written = subst (λ t. Runs w (lines.Settle line) after [] t) (sym c.in_ok-append.ensures.ok) ran in
    (subst (λ v. Runs v (lines.Settle line) after [] c.append.new.self) (ap (λ h. h.world) c.self.view_is) written, ap (λ h. h.stopped) c.self.view_is)
