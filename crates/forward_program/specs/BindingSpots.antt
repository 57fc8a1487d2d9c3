-- The places of bindings.
use Rattle.std.specs.Prelude.{Bool, true, false}
use Rattle.forward_program.specs.declared.spots.Spot.{Spot}
use Rattle.forward_program.specs.declared.spots.Spot.TheVariants as spot
use Rattle.forward_program.specs.declared.spots.Part.TheVariants as part

abbrev pub is_binding_spot : Spot → Bool
is_binding_spot (spot.Port port vlan) = true
is_binding_spot (spot.Switch switch (part.Member port vlan)) = true
is_binding_spot _ = false
