-- The order of the places of the forwarding state.
use Rattle.std.specs.Cmp.{IsTotalOrder}
use Rattle.std.specs.Coded.{Coded, code_by, coded×, coded_bool}
use Rattle.std.specs.Prelude.{Bool, refl}
use Rattle.std.specs.declared.cmp.Ordering.{Ordering}
use Rattle.vtep_base.specs.Maps as maps
use Rattle.vtep_base.specs.Maps.{Map}
use Rattle.forward_program.specs.declared.spots.Spot.{Spot}
use Rattle.forward_program.specs.declared.held.Held.{Held}
use Rattle.forward_program.specs.contracts.spots.SpotOrd.TheImpl as spot_order
use Rattle.forward_program.specs.contracts.spots.SpotOrd.TheImpl.Laws as spot_laws
use Rattle.forward_program.specs.contracts.spots.Spot as spot
use Rattle.forward_program.specs.contracts.held.Held as held

abbrev pub spot_cmp : Spot → Spot → Ordering
spot_cmp = (spot_order.ghosts).cmp

pub spot_total : IsTotalOrder spot_cmp
spot_total = spot_laws.total-law

-- what stands at each place
abbrev pub Entries : Type 0
Entries = Map spot_cmp Held

-- a forwarding state: its entries, and whether want of memory broke it
pub record State : Type 0 where
  pub entries : Entries
  pub broken : Bool

abbrev pub entries_code : Coded Entries
entries_code = maps.code (spot.the_row).coded (held.the_row).coded

abbrev pub state_code : Coded State
state_code = code_by (Entries × Bool) (coded× entries_code coded_bool) (λ s. (s.entries, s.broken)) (λ p. record { entries = p.0; broken = p.1 }) (λ _. refl)
