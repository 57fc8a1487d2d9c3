use Rattle.std.proofs.Common.{◌≡◌, Some, Option, OnOk, sym, ap, ◌∙◌, subst}
use Rattle.vtep_base.specs.Maps as maps
use Rattle.forward_program.specs.declared.held.Held.{Held}
use Rattle.forward_program.specs.declared.held.Held.TheVariants as held
use Rattle.forward_program.specs.Spots.{State}
use Rattle.forward_program.specs.Hosts.{forgotten_by}
use Rattle.forward_program.proofs.fib.Fib.forget_at.Goals as goal

pub returns-clause-ok : goal.returns-clause-ok
returns-clause-ok g c =
    let w = c.in-Some-Host-Some-default in
    let entry : Some (held.Host (Some w.field-0-0-0) w.there) ≡ Some w.field-0.now = ap (λ h. Some (held.Host h w.there)) (sym w.field-0-0-is) ∙ ap Some (sym w.field-0-is) in
    let there : Some w.field-0.now ≡ maps.get c.args.self.now.entries c.args.spot = w.ensures ∙ ap (λ (s : State). maps.get s.entries c.args.spot) c.self.view_is in
    subst (λ (o : Option Held). OnOk c.forget_here.result (c.forget_here.new.self.entries ≡ forgotten_by c.args.self.now.entries c.args.spot o)) (entry ∙ there) (c.forget_here.ensures.ok w.field-0-0-0)
