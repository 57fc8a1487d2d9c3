-- How an address is held while it is read: its digits so far fit below the room of those that are still to come.
use Rattle.std.specs.Prelude.{ℕ, ◌-◌, ◌/◌, ◌^◌, ◌≤◌, ◌<◌}
use Rattle.vtep_base.specs.declared.addresses.Pairs.TheInside.{Inside}

-- how many of the last bytes of the text are digits
abbrev pub digits_left : ℕ → ℕ
digits_left left = left - left / 3

pub record IsRead (p : Inside) : Type 0 where
  pub within : p.left ≤ 17
  pub below : p.number < 16 ^ (12 - digits_left p.left)
