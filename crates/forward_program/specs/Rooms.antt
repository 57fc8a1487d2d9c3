-- For how many ports and addresses there has to be room, so that a hop takes no memory.
use Rattle.std.specs.Prelude.{ℕ, ◌+◌, ◌≤◌, ◌<◌, ◌⊎◌, Bool, count_by}
use Rattle.forward_program.specs.declared.spots.Spot.{Spot}
use Rattle.forward_program.specs.declared.held.Held.{Held}
use Rattle.forward_program.specs.BindingSpots.{is_binding_spot}
use Rattle.forward_program.specs.Spots.{Entries}
use Rattle.forward_program.specs.Hops.{Hops}

abbrev pub is_binding : Spot × Held → Bool
is_binding e = is_binding_spot e.0

-- at least one more than the bindings of each switch, and than the facts of bindings
abbrev pub ports_needed : Entries → ℕ
ports_needed m = 1 + count_by is_binding m.list

-- a locator set has at most 64 locators
abbrev pub addresses_needed : ℕ
addresses_needed = 64

pub record HasRoom (m : Entries) (out : Hops) : Type 0 where
  pub ports : ports_needed m ≤ out.port_room
  pub addresses : addresses_needed ≤ out.address_room

-- there is not enough
abbrev pub Lacks : Entries → Hops → Type 0
Lacks m out = (out.port_room < ports_needed m) ⊎ (out.address_room < addresses_needed)

-- no room went
pub record KeepsRoom (old new : Hops) : Type 0 where
  pub ports : old.port_room ≤ new.port_room
  pub addresses : old.address_room ≤ new.address_room
