-- How the learnt addresses are held: each entry under its switch and address.
use Rattle.std.specs.Prelude.{◌≡◌, ℕ, ◌≤◌, List, map, length}
use Rattle.std.specs.Map.{values_of}
use Rattle.mac_learning.specs.declared.Learnt.{Learnt}
use Rattle.mac_learning.specs.Learning.{IsOnce}

abbrev pub keyed : List Learnt → List ((ℕ × ℕ) × Learnt)
keyed es = map (λ e. ((e.switch, e.mac), e)) es

pub record IsKept (entries : List ((ℕ × ℕ) × Learnt)) (limit : ℕ) : Type 0 where
  pub under_own_key : entries ≡ keyed (values_of entries)
  pub once : IsOnce (values_of entries)
  pub within : length (values_of entries) ≤ limit
