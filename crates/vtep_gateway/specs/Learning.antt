-- What a gateway learns of the frames that enter, and what it forgets with time.
use Rattle.std.specs.Prelude.{ℕ, ◌+◌, ◌-◌, ◌^◌, min, Bool, true, false, ◌&&◌, nat_lt, if◌then◌else◌, List, [], length}
use Rattle.vtep_base.specs.Reading.{Bytes}
use Rattle.vtep_base.specs.Addresses.{is_group}
use Rattle.vtep_rows.specs.Rows.{last_number}
use Rattle.mac_learning.specs.declared.Learn.{Learn}
use Rattle.mac_learning.specs.declared.Learn.TheVariants as learn
use Rattle.mac_learning.specs.declared.Learnt.{Learnt}
use Rattle.mac_learning.specs.Learning.{entry, found, learns_by, put, kept_at}
use Rattle.forward_program.specs.Hop.{source}
use Rattle.vtep_gateway.specs.declared.Outgoing.{Outgoing}
use Rattle.vtep_gateway.specs.Vtep.{Vtep}
use Rattle.vtep_gateway.specs.Commit.{Taken, changed}

-- how many addresses may be learnt
abbrev pub most_learnt : ℕ
most_learnt = 2048

-- there is room for one address more, and a number for its row
abbrev pub has_room : Vtep → Bool
has_room v = nat_lt (length v.learned) most_learnt && nat_lt v.rows.counter last_number

-- what becomes of an address that is seen
abbrev pub learns_in : Vtep → Learnt → Learn
learns_in v new = learns_by (has_room v) new (found new.switch new.mac v.learned)

-- the tunnel end point that has seen a frame, what is sent, and whether its source could not be learnt
pub record Seen : Type 0 where
  pub vtep : Vtep
  pub sends : List Outgoing
  pub full : Bool

abbrev pub unseen : Vtep → Bool → Seen
unseen v full = record { vtep = v; sends = []; full = full }

abbrev pub taught : Taken → Seen
taught t = record { vtep = t.vtep; sends = t.sends; full = false }

abbrev pub seen_by : Vtep → Learnt → Learn → Seen
seen_by v new learn.Full = unseen v true
seen_by v new _ = taught (changed v v.rows (put new v.learned))

-- the source of a frame of a switch is learnt where it entered, unless it is the address of a group
abbrev pub with_source : Vtep → ℕ → Bytes → ℕ → Bytes → Seen
with_source v switch port vlan inner =
    let new : Learnt = entry switch (source inner) port vlan v.clock in
    if is_group (source inner) then unseen v false else seen_by v new (learns_in v new)

-- ---- ageing

abbrev pub later : ℕ → ℕ → ℕ
later clock seconds = min (clock + seconds) (2 ^ 64 - 1)

-- the clock goes on, and what was seen too long ago is forgotten
abbrev pub aged : Vtep → ℕ → Taken
aged v seconds = let now : ℕ = later v.clock seconds in changed (record v { clock = now }) v.rows (kept_at now v.learned)
