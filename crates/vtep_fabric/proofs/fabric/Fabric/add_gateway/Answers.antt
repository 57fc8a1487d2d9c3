use Rattle.std.proofs.Common.{◌≡◌, nat_le, false, [], refl, sym, subst, ◌∙◌, arith}
use Rattle.std.proofs.lemmas.Bool.Decides.{nat_tests}
use Rattle.vtep_base.specs.Maps as maps
use Rattle.fabric_world.specs.declared.Line.TheVariants as lines
use Rattle.fabric_world.specs.Happenings.{Gateways}
use Rattle.fabric_world.specs.World.{World, most_gateways}
use Rattle.vtep_fabric.specs.Fabrics.{Held, Runs}
use Rattle.vtep_fabric.proofs.LinesDone.{comes}
use Rattle.vtep_fabric.proofs.fabric.Fabric.add_gateway.Goals as goal

pub returns : goal.returns
returns c =
    let w : World = record { gateways = c.self.inside.roster; intention = c.self.inside.intention; untouched = c.self.inside.untouched } in
    let line = c.args.line.now in
    let with : Gateways → World = λ gs. record w { gateways = gs } in
    let room : nat_le most_gateways (maps.size w.gateways) ≡ false = grind (arith, nat_tests, c.count.ensures, c.if-count-ge-MOST_GATEWAYS.false) in
    let ran = comes w line (sym c.knows.ensures ∙ c.if-knows.false) (sym c.has_ip.ensures ∙ c.if-has_ip.false) room in
    subst (λ (h : Held). Runs h.world (lines.Gateway line) (with c.add.new.self) [] [] × (c.self.inside.stopped ≡ h.stopped)) c.self.view_is
    (subst (λ gs. Runs w (lines.Gateway line) (with gs) [] []) (sym c.in_ok-add.ensures) ran, refl)
