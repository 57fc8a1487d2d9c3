-- Facts as joins of a few entries of the forwarding state.
use Rattle.std.specs.Prelude.{ℕ, Bool, true, false, ◌||◌, ◌==◌, if◌then◌else◌, List, [], ◌∷◌, filter_map, Option, Some, None, option_map, option_and_then}
use Rattle.std.specs.List.{list_any}
use Rattle.vtep_base.specs.Reading.{Bytes}
use Rattle.vtep_base.specs.Maps as maps
use Rattle.vtep_base.specs.declared.Mode.{Mode}
use Rattle.vtep_base.specs.declared.Mode.TheVariants.{Service}
use Rattle.locator_sets.specs.Locators.{ascending}
use Rattle.acl_rules.specs.declared.entry.Entry as acl
use Rattle.replication.specs.Targets.{targets}
use Rattle.forward_program.specs.declared.spots.Spot.{Spot}
use Rattle.forward_program.specs.declared.spots.Spot.TheVariants as spot
use Rattle.forward_program.specs.declared.spots.Part.{Part}
use Rattle.forward_program.specs.declared.spots.Part.TheVariants as part
use Rattle.forward_program.specs.declared.held.Held.{Held}
use Rattle.forward_program.specs.declared.held.Held.TheVariants as held
use Rattle.forward_program.specs.declared.held.Lists.{Lists}
use Rattle.forward_program.specs.declared.facts.Fact.{Fact}
use Rattle.forward_program.specs.declared.facts.Fact.TheVariants as fact
use Rattle.forward_program.specs.declared.facts.Place.{Place}
use Rattle.forward_program.specs.declared.facts.Place.TheVariants.{Here, There}
use Rattle.forward_program.specs.declared.looks.Step.{Step}
use Rattle.forward_program.specs.declared.looks.Step.TheVariants as step
use Rattle.forward_program.specs.Places.{is_here}
use Rattle.forward_program.specs.Built.{if_bound, acl_rows, names_acl, flood_to}
use Rattle.forward_program.specs.Spots.{spot_cmp, Entries}

-- a port and a VLAN
abbrev pub Port : Type 0
Port = Bytes × ℕ

-- ---- what stands at a place

pub record Bound : Type 0 where
  pub switch : ℕ
  pub lists : Lists

abbrev pub bound_in : Option Held → Option Bound
bound_in (Some (held.Bound switch lists)) = Some (record { switch = switch; lists = lists })
bound_in _ = None

abbrev pub bound_at : Entries → Port → Option Bound
bound_at m p = bound_in (maps.get m (spot.Port p.0 p.1))

abbrev pub of_in : Option Held → Option ℕ
of_in (Some (held.Of switch)) = Some switch
of_in _ = None

abbrev pub vni_in : Option Held → Option ℕ
vni_in (Some (held.Switch vni mode)) = vni
vni_in _ = None

-- the VNI of a switch
abbrev pub vni_at : Entries → ℕ → Option ℕ
vni_at m switch = vni_in (maps.get m (spot.Switch switch part.Itself))

abbrev pub mode_in : Option Held → Mode
mode_in (Some (held.Switch vni mode)) = mode
mode_in _ = Service

abbrev pub mode_at : Entries → ℕ → Mode
mode_at m switch = mode_in (maps.get m (spot.Switch switch part.Itself))

abbrev pub address_in : Option Held → Option ℕ
address_in (Some (held.Address ip)) = Some ip
address_in _ = None

-- the address of a locator other than the gateway's own
abbrev pub address_at : Entries → ℕ → Option ℕ
address_at m locator = address_in (maps.get m (spot.Locator locator))

abbrev pub locators_in : Option Held → List ℕ
locators_in (Some (held.Members locators)) = locators
locators_in _ = []

abbrev pub locators_at : Entries → ℕ → List ℕ
locators_at m set = locators_in (maps.get m (spot.Set set))

abbrev pub rules_in : Option Held → Option (List acl.Entry)
rules_in (Some (held.Rules entries)) = Some entries
rules_in _ = None

-- the entries of an ACL, where it is there
abbrev pub rules_at : Entries → ℕ → Option (List acl.Entry)
rules_at m id = rules_in (maps.get m (spot.Acl id))

abbrev pub addresses_at : Entries → ℕ → List ℕ
addresses_at m set = ascending (filter_map (address_at m) (locators_at m set))

-- ---- the bindings of a switch: they stand behind it

-- what a part of a switch is behind it: its own row, and a member without lists, are passed over
abbrev pub part_step : Part → Held → Step
part_step part.Itself h = step.Itself
part_step (part.Member port vlan) (held.Lists lists) = step.Member port vlan lists
part_step (part.Member port vlan) h = step.Itself
part_step _ h = step.Other

abbrev pub step_of : ℕ → Spot × Held → Step
step_of switch (spot.Switch s p, h) = if s == switch then part_step p h else step.Other
step_of switch _ = step.Other

abbrev pub after_step : Step → List (Port × Lists) → List (Port × Lists)
after_step step.Itself bs = bs
after_step (step.Member port vlan lists) bs = ((port, vlan), lists) ∷ bs
after_step step.Other bs = []

-- of entries from a switch on its bindings
abbrev pub members_from : ℕ → List (Spot × Held) → List (Port × Lists)
members_from switch [] = []
members_from switch (e ∷ es) = after_step (step_of switch e) (members_from switch es)

abbrev pub members_at : Entries → ℕ → List (Port × Lists)
members_at m switch = members_from switch (maps.not_below spot_cmp (Some (spot.Switch switch part.Itself)) m)

abbrev pub is_some_member : List (Port × Lists) → Bool
is_some_member [] = false
is_some_member (b ∷ bs) = true

abbrev pub is_bound_at : Entries → ℕ → Bool
is_bound_at m switch = is_some_member (members_at m switch)

-- ---- joins

-- the switch of a network that is bound
abbrev pub network_at : Entries → ℕ → Option ℕ
network_at m vni = option_and_then (λ switch. if_bound (is_bound_at m switch) (Some switch)) (of_in (maps.get m (spot.Vni vni)))

-- where an address of a switch is, by what is known here and there
abbrev pub place_by : Entries → Option Port → Option ℕ → Option Place
place_by m (Some p) there = Some (Here p.0 p.1)
place_by m None there = option_map There (option_and_then (address_at m) there)

abbrev pub place_in : Entries → Option Held → Option Place
place_in m (Some (held.Host here there)) = place_by m here there
place_in m _ = None

-- where an address of a switch is
abbrev pub place_at : Entries → ℕ → ℕ → Option Place
place_at m switch mac = place_in m (maps.get m (spot.Switch switch (part.Host mac)))

-- the same, where the switch is bound: an address that was learnt is one of a bound switch
abbrev pub found_at : Entries → ℕ → ℕ → Option Place
found_at m switch mac = option_and_then (λ place. if_bound (is_here place || is_bound_at m switch) (Some place)) (place_at m switch mac)

abbrev pub flood_in : Entries → ℕ → Option Held → List ℕ
flood_in m switch (Some (held.Set set)) = targets (mode_at m switch) (addresses_at m set)
flood_in m switch _ = []

-- where frames of a bound switch to a group, or to an address that is not known, are sent; none stands for the latter
abbrev pub flood_at : Entries → ℕ → Option ℕ → List ℕ
flood_at m switch group = flood_in m switch (maps.get m (spot.Switch switch (part.Group group)))

-- ---- the ACLs that bindings list

-- the lists of a VLAN of a port name it
abbrev pub lists_acl : ℕ → Spot × Held → Bool
lists_acl acl (spot.Port port vlan, held.Bound switch lists) = names_acl acl lists
lists_acl acl _ = false

abbrev pub is_listed_at : Entries → ℕ → Bool
is_listed_at m acl = list_any (lists_acl acl) m.list

-- ---- the facts, by their places

abbrev pub part_fact : Entries → ℕ → Part → Option Fact
part_fact m switch (part.Group group) = if_bound (is_bound_at m switch) (flood_to switch group (flood_at m switch group))
part_fact m switch (part.Host mac) = option_map (fact.Mac switch mac) (found_at m switch mac)
part_fact m switch _ = None

abbrev pub fact_at : Entries → Spot → Option Fact
fact_at m (spot.Port port vlan) = option_map (λ b. fact.Bind port vlan b.switch (acl_rows b.lists)) (bound_at m (port, vlan))
fact_at m (spot.Switch switch p) = part_fact m switch p
fact_at m (spot.Vni vni) = option_map (fact.Vni vni) (network_at m vni)
fact_at m (spot.Acl id) = if is_listed_at m id then option_map (fact.Acl id) (rules_at m id) else None
fact_at m _ = None

-- all facts, in the order of their places
abbrev pub facts_of : Entries → List Fact
facts_of m = filter_map (fact_at m) (maps.keys m)
