-- Counts by key: a finite map, in which a key that is not there counts 0.
use Rattle.std.specs.Prelude.{ℕ, ◌+◌, ◌-◌, nat_le, unwrap_or, if◌then◌else◌}
use Rattle.std.specs.declared.cmp.Ordering.{Ordering}
use Rattle.vtep_base.specs.Maps as maps
use Rattle.vtep_base.specs.Maps.{Map}

module _ {K : Type 0} {R : K → K → Ordering} where
  abbrev pub count_at : Map R ℕ → K → ℕ
  count_at m k = unwrap_or (maps.get m k) 0

  -- once more
  abbrev pub raised : Map R ℕ → K → Map R ℕ
  raised m k = maps.insert m k (count_at m k + 1)

  -- once less; a key that counts 0 has no entry
  abbrev pub lowered : Map R ℕ → K → Map R ℕ
  lowered m k = if nat_le (count_at m k) 1 then maps.remove m k else maps.insert m k (count_at m k - 1)
