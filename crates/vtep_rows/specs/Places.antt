-- Where a key stands in a list that is in order.
use Rattle.std.specs.Prelude.{ℕ, ◌+◌, List, [], ◌∷◌, Result, Ok, Err}
use Rattle.std.specs.declared.cmp.Ordering.{Ordering}
use Rattle.std.specs.FinMap.Entries.{by_order}

-- the place is that in the rest of a list, behind n others
abbrev pub behind : ℕ → Result ℕ ℕ → Result ℕ ℕ
behind n (Ok i) = Ok (n + i)
behind n (Err i) = Err (n + i)

-- where the key stands, or else where it would
abbrev pub place_in : {K X : Type 0} → (K → K → Ordering) → K → List (K × X) → Result ℕ ℕ
place_in R k [] = Err 0
place_in R k (e ∷ es) = by_order (R k e.0) (Err 0) (Ok 0) (behind 1 (place_in R k es))
