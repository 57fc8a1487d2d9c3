-- The outside in memory.
use Rattle.std.specs.Prelude.{◌≡◌, ℕ, zero, suc, ◌<◌, ◌≤◌, length, List, [], ◌∷◌, ◌++◌, take, drop}
use Rattle.vtep_base.specs.Reading.{Bytes}

-- pieces, one after another
abbrev pub joined : List Bytes → Bytes
joined [] = []
joined (p ∷ ps) = p ++ joined ps

-- what is left from an offset in a piece on, and what stands before it
abbrev pub left_at : List Bytes → ℕ → ℕ → Bytes
left_at [] place offset = []
left_at (p ∷ ps) zero offset = drop offset p ++ joined ps
left_at (p ∷ ps) (suc place) offset = left_at ps place offset

abbrev pub taken_at : List Bytes → ℕ → ℕ → Bytes
taken_at [] place offset = []
taken_at (p ∷ ps) zero offset = take offset p
taken_at (p ∷ ps) (suc place) offset = p ++ taken_at ps place offset

-- n bytes, at the front of the buffer, are those from one place to another
pub record TakesOne (pieces : List Bytes) (place offset next_place next_offset : ℕ) (buffer : Bytes) (n : ℕ) : Type 0 where
  pub some : 0 < n
  pub fits : n ≤ length buffer
  pub left : left_at pieces place offset ≡ take n buffer ++ left_at pieces next_place next_offset
  pub taken : taken_at pieces next_place next_offset ≡ taken_at pieces place offset ++ take n buffer
