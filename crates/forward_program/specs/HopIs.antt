-- What a hop hands on.
use Rattle.std.specs.Prelude.{◌≡◌}
use Rattle.forward_program.specs.declared.hops.Outcome.{Outcome}
use Rattle.forward_program.specs.Hops.{Hops}
use Rattle.forward_program.specs.Hop.{Way}

pub record HopIs (outcome : Outcome) (out : Hops) (way : Way) : Type 0 where
  pub outcome_is : outcome ≡ way.outcome
  pub ports : out.ports ≡ way.ports
  pub addresses : out.addresses ≡ way.addresses
  pub vni : out.vni ≡ way.vni
