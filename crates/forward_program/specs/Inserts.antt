-- Numbers put at their places among ascending ones.
use Rattle.std.specs.Prelude.{◌≡◌, ◌≤◌, ℕ, List, length, insert}
use Rattle.std.specs.Ordering.{nat_cmp}
use Rattle.std.specs.BTreeSet.{insert_key}

-- at this index it stands in order
pub record InsertsAt (xs : List ℕ) (x i : ℕ) : Type 0 where
  pub within : i ≤ length xs
  pub placed : insert xs i x ≡ insert_key nat_cmp xs x
