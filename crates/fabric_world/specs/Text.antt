-- The lines of a text, and their words.
use Rattle.std.specs.Prelude.{◌≡◌, ℕ, ◌+◌, Bool, true, false, ◌&&◌, ◌==◌, nat_le, if◌then◌else◌, List, [], ◌∷◌, ◌++◌, Option, Some, None}
use Rattle.vtep_base.specs.Reading.{Bytes}

-- a carriage return at the end goes
abbrev pub without_return : Bytes → Bytes
without_return [] = []
without_return (b ∷ []) = if b == 13 then [] else b ∷ []
without_return (b ∷ c ∷ bs) = b ∷ without_return (c ∷ bs)

-- the text behind a front: what stands before each line feed, and what stands behind the last one
abbrev pub cut : Bytes → Bytes → List Bytes × Bytes
cut front [] = ([], front)
cut front (b ∷ bs) = if b == 10 then (without_return front ∷ (cut [] bs).0, (cut [] bs).1) else cut (front ++ b ∷ []) bs

-- no byte is a line feed
abbrev pub NoFeed : Bytes → Type 0
NoFeed [] = Unit {0}
NoFeed (b ∷ bs) = ((b == 10) ≡ false) × NoFeed bs

-- a word, and the column of its first byte
pub record Word : Type 0 where
  pub column : ℕ
  pub bytes : Bytes

-- a byte goes onto the word that begins just behind it
abbrev pub onto : ℕ → ℕ → List Word → List Word
onto b column [] = record { column = column; bytes = b ∷ [] } ∷ []
onto b column (w ∷ ws) = if w.column == column + 1 then record { column = column; bytes = b ∷ w.bytes } ∷ ws else record { column = column; bytes = b ∷ [] } ∷ w ∷ ws

-- the words of a line that begins at a column: what stands between spaces
abbrev pub words_from : ℕ → Bytes → List Word
words_from column [] = []
words_from column (b ∷ bs) = if b == 32 then words_from (column + 1) bs else onto b column (words_from (column + 1) bs)

abbrev pub words : Bytes → List Word
words line = words_from 1 line

abbrev pub starts_comment : Bytes → Bool
starts_comment [] = false
starts_comment (b ∷ bs) = b == 35

-- a line without words, or a comment
abbrev pub is_skipped : List Word → Bool
is_skipped [] = true
is_skipped (w ∷ ws) = starts_comment w.bytes

abbrev pub is_printable : ℕ → Bool
is_printable b = nat_le 0x20 b && nat_le b 0x7e

-- the column of the first byte that is not printable, of those from a column on
abbrev pub bad_from : ℕ → Bytes → Option ℕ
bad_from column [] = None
bad_from column (b ∷ bs) = if is_printable b then bad_from (column + 1) bs else Some column

abbrev pub bad_byte : Bytes → Option ℕ
bad_byte line = bad_from 1 line
