-- The places of learnt addresses, beside what the rows say of an address.
use Rattle.std.specs.Prelude.{ℕ, List, [], ◌∷◌, map, Option, Some, None, option_map}
use Rattle.vtep_base.specs.Maps as maps
use Rattle.mac_learning.specs.declared.Learnt.{Learnt}
use Rattle.mac_learning.specs.Learning.{found}
use Rattle.forward_program.specs.declared.spots.Spot.{Spot}
use Rattle.forward_program.specs.declared.spots.Spot.TheVariants as spot
use Rattle.forward_program.specs.declared.spots.Part.TheVariants as part
use Rattle.forward_program.specs.declared.held.Held.{Held}
use Rattle.forward_program.specs.declared.held.Held.TheVariants as held
use Rattle.forward_program.specs.Spots.{Entries}
use Rattle.forward_program.specs.Joins.{Port}

-- ---- the learnt list

abbrev pub port_of : Learnt → Port
port_of e = (e.port, e.vlan)

-- where an address of a switch was learnt
abbrev pub learnt_port : List Learnt → ℕ → ℕ → Option Port
learnt_port l switch mac = option_map port_of (found switch mac l)

-- ---- at the place of an address

abbrev pub host : ℕ → ℕ → Spot
host switch mac = spot.Switch switch (part.Host mac)

-- the locator of the remote row
abbrev pub there_in : Option Held → Option ℕ
there_in (Some (held.Host here there)) = there
there_in _ = None

-- what the rows say stays
abbrev pub learnt_at : Entries → Spot → Port → Entries
learnt_at m k p = maps.insert m k (held.Host (Some p) (there_in (maps.get m k)))

abbrev pub forgotten_by : Entries → Spot → Option Held → Entries
forgotten_by m k (Some (held.Host (Some p) None)) = maps.remove m k
forgotten_by m k (Some (held.Host (Some p) (Some locator))) = maps.insert m k (held.Host None (Some locator))
forgotten_by m k _ = m

-- the address is learnt there, or is not learnt
abbrev pub with_place : Entries → Spot → Option Port → Entries
with_place m k (Some p) = learnt_at m k p
with_place m k None = forgotten_by m k (maps.get m k)

abbrev pub with_places : Entries → List (Spot × Option Port) → Entries
with_places m [] = m
with_places m (x ∷ xs) = with_places (with_place m x.0 x.1) xs

-- ---- all learnt addresses

abbrev pub learnt_place : Learnt → Spot × Option Port
learnt_place e = (host e.switch e.mac, Some (port_of e))

abbrev pub with_learnt : List Learnt → Entries → Entries
with_learnt l m = with_places m (map learnt_place l)
