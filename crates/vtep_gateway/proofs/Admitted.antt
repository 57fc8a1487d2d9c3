-- A frame that may enter comes to the switch of its binding.
use Rattle.std.proofs.Common.{◌≡◌, ℕ, Bool, true, false, cond, Option, Some, None, refl, ap}
use Rattle.vtep_base.specs.declared.shapes.Direction.TheVariants.{Ingress}
use Rattle.ether_frames.specs.declared.fields.Headers.{Headers}
use Rattle.forward_program.specs.declared.hops.Admission.{Admission}
use Rattle.forward_program.specs.declared.hops.Admission.TheVariants as enter
use Rattle.forward_program.specs.Joins.{Port}
use Rattle.forward_program.specs.Hop.{Ways, may_pass, admitted}

abbrev to_switch : Admission → Option ℕ
to_switch (enter.To switch) = Some switch
to_switch enter.Unbound = None
to_switch enter.Denied = None

pub admitted_bound : (w : Ways) (p : Port) (h : Headers) (o : Option ℕ) (switch : ℕ) → admitted w p h o ≡ enter.To switch → o ≡ Some switch
admitted_bound w p h None switch e = ap to_switch e
admitted_bound w p h (Some there) switch e = by (may_pass w Ingress h (w.lists p)) e
  where
    by : (b : Bool) → cond b (enter.To there) enter.Denied ≡ enter.To switch → Some there ≡ Some switch
    by true e = ap to_switch e
    by false e = absurd (none (ap to_switch e))
      where
        none : None ≡ Some switch → ⊥
        none h = cc
