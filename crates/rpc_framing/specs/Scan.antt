-- Where the text of a message ends.
use Rattle.std.specs.Prelude.{◌≡◌, ℕ, ◌+◌, ◌-◌, ◌≤◌, ◌<◌, ◌||◌, ◌==◌, if◌then◌else◌, [], ◌∷◌, length, take, slice_index}
use Rattle.vtep_base.specs.Reading.{Bytes}
use Rattle.rpc_framing.specs.declared.FramingKind.TheVariants.{TooDeep, TooLong}
use Rattle.rpc_framing.specs.declared.scan.Place.{Place}
use Rattle.rpc_framing.specs.declared.scan.Place.TheVariants.{Outside, Quoted, Escaped}
use Rattle.rpc_framing.specs.declared.scan.Cursor.{Cursor}
use Rattle.rpc_framing.specs.declared.scan.End.{End}
use Rattle.rpc_framing.specs.declared.scan.End.TheVariants.{At, Open, Refused}

abbrev pub cursor : ℕ → Place → Cursor
cursor depth place = record { depth = depth; place = place }

-- brackets count outside strings alone
abbrev pub after_outside : ℕ → ℕ → Cursor
after_outside depth b =
    if b == 34 then cursor depth Quoted
    else if (b == 123) || (b == 91) then cursor (depth + 1) Outside
    else if (b == 125) || (b == 93) then cursor (depth - 1) Outside
    else cursor depth Outside

-- in a string a backslash takes the next byte with it
abbrev pub after_quoted : ℕ → ℕ → Cursor
after_quoted depth b =
    if b == 34 then cursor depth Outside
    else if b == 92 then cursor depth Escaped
    else cursor depth Quoted

abbrev pub after_at : Place → ℕ → ℕ → Cursor
after_at Outside depth b = after_outside depth b
after_at Quoted depth b = after_quoted depth b
after_at Escaped depth b = cursor depth Quoted

abbrev pub after_byte : Cursor → ℕ → Cursor
after_byte c b = after_at c.place c.depth b

abbrev pub at_start : Cursor
at_start = cursor 0 Outside

-- i: the bytes before
abbrev pub end_from : ℕ → Cursor → ℕ → Bytes → End
end_from limit c i [] = Open c
end_from limit c i (b ∷ bs) =
    if (after_byte c b).depth == 65 then Refused i TooDeep
    else if i == limit then Refused i TooLong
    else if (after_byte c b).depth == 0 then At (i + 1)
    else end_from limit (after_byte c b) (i + 1) bs

abbrev pub end_of : ℕ → Bytes → End
end_of limit bytes = end_from limit at_start 0 bytes

-- so many bytes of a text were looked at, and no end was among them
pub record IsScanned (limit : ℕ) (text : Bytes) (count : ℕ) (c : Cursor) : Type 0 where
  pub within : count ≤ length text
  pub shallow : c.depth ≤ 64
  pub so_far : end_of limit (take count text) ≡ Open c

-- the rest of a stream, of which so many bytes were looked at, all of them of one text
pub record IsHeld (limit : ℕ) (rest : Bytes) (count : ℕ) (c : Cursor) : Type 0 where
  pub scanned : IsScanned limit rest count c
  pub begun : 0 < count → slice_index rest 0 ≡ 123

abbrev pub IfOpen : End → (Cursor → Type 0) → Type 0
IfOpen (Open c) P = P c
IfOpen _ P = Unit {0}

abbrev pub IfAt : End → (ℕ → Type 0) → Type 0
IfAt (At n) P = P n
IfAt _ P = Unit {0}
