use Rattle.std.proofs.Common.{Some, sym, ap, ◌∙◌}
use Rattle.vtep_base.specs.Maps as maps
use Rattle.forward_program.specs.Spots.{State}
use Rattle.forward_program.proofs.SameLaws.{binding_same}
use Rattle.forward_program.proofs.fib.Fib.holds.Goals as goal

pub returns-in-Some : goal.returns-in-Some
returns-in-Some g c e =
    sym (ap (λ (s : State). maps.get s.entries c.args.spot.now) c.self.view_is) ∙ sym c.in-Some.ensures
    ∙ ap Some (binding_same c.in-Some.there.now c.args.held.now (sym c.same_binding.ensures ∙ e))
