-- What sources and sinks are: their bytes, where they tell them, and their counts.
use Rattle.std.specs.Prelude.{◌≡◌, ℕ, ◌+◌, ◌-◌, ◌^◌, ◌≤◌, ◌<◌, min, [], ◌++◌, length, take, Option, Some, None}
use Rattle.std.specs.Io.KnownBytes.{Consumes, Appends, Keeps, IsAtEnd}
use Rattle.vtep_base.specs.Reading.{Bytes}
use Rattle.vtep_base.specs.declared.outside.Took.{Took}
use Rattle.vtep_base.specs.declared.outside.Took.TheVariants as took
use Rattle.vtep_base.specs.declared.outside.Put.{Put}
use Rattle.vtep_base.specs.declared.outside.Put.TheVariants as put

-- a told list with a piece at its end; a list that isn't told stays untold
abbrev pub Grows : Option Bytes → Bytes → Option Bytes → Type 0
Grows None piece None = Unit {0}
Grows (Some old) piece (Some new) = new ≡ old ++ piece
Grows _ piece _ = ⊥

-- a told list without the piece at its front
abbrev pub Shrinks : Option Bytes → Bytes → Option Bytes → Type 0
Shrinks None piece None = Unit {0}
Shrinks (Some old) piece (Some new) = old ≡ piece ++ new
Shrinks _ piece _ = ⊥

-- no byte is left, where that is told
abbrev pub IsSpent : Option Bytes → Type 0
IsSpent None = Unit {0}
IsSpent (Some left) = left ≡ []

-- a count rose, or stands at the end of its type
abbrev pub Rose : ℕ → ℕ → Type 0
Rose before now = min (before + 1) (2 ^ 64 - 1) ≤ now

abbrev pub counted : ℕ → ℕ
counted n = min (n + 1) (2 ^ 64 - 1)

-- a source: the bytes left, the bytes taken, the count of its faults and the number of its Ends
pub record SourceState : Type 0 where
  pub left : Option Bytes
  pub taken : Option Bytes
  pub faults : ℕ
  pub ends : ℕ

-- what one take does
pub record TakesPiece (old new : SourceState) (room : ℕ) (buffer : Bytes) (n : ℕ) : Type 0 where
  pub some : 0 < n
  pub fits : n ≤ room
  pub left : Shrinks old.left (take n buffer) new.left
  pub taken : Grows old.taken (take n buffer) new.taken
  pub faults : old.faults ≤ new.faults
  pub ends : new.ends ≡ old.ends

pub record TakesEnd (old new : SourceState) : Type 0 where
  pub spent : IsSpent old.left
  pub left : new.left ≡ old.left
  pub taken : new.taken ≡ old.taken
  pub faults : old.faults ≤ new.faults
  pub ends : new.ends ≡ counted old.ends

pub record TakesFault (old new : SourceState) : Type 0 where
  pub left : new.left ≡ old.left
  pub taken : new.taken ≡ old.taken
  pub faults : old.faults ≤ new.faults
  pub rose : Rose old.faults new.faults
  pub ends : new.ends ≡ old.ends

abbrev pub Takes : SourceState → SourceState → Bytes → Took → Type 0
Takes old new buffer (took.Took n) = TakesPiece old new (length buffer) buffer n
Takes old new buffer took.End = TakesEnd old new
Takes old new buffer took.Failed = TakesFault old new

abbrev pub IsFailed : Took → Type 0
IsFailed took.Failed = Unit {0}
IsFailed _ = ⊥

-- a sink: the bytes written and the count of its faults
pub record SinkState : Type 0 where
  pub written : Option Bytes
  pub faults : ℕ

-- what one put does
pub record PutsPiece (old new : SinkState) (piece : Bytes) (n : ℕ) : Type 0 where
  pub some : 0 < n
  pub fits : n ≤ length piece
  pub written : Grows old.written (take n piece) new.written
  pub faults : old.faults ≤ new.faults

pub record PutsFault (old new : SinkState) : Type 0 where
  pub written : new.written ≡ old.written
  pub faults : old.faults ≤ new.faults
  pub rose : Rose old.faults new.faults

abbrev pub Puts : SinkState → SinkState → Bytes → Put → Type 0
Puts old new piece (put.Put n) = PutsPiece old new piece n
Puts old new piece put.Failed = PutsFault old new

-- a piece of n bytes was put whole, or not at all
abbrev pub IsWhole : Put → ℕ → Type 0
IsWhole (put.Put n) size = n ≡ size
IsWhole put.Failed size = Unit {0}

-- a reader whose bytes are known lost those that were taken, and has none left at its end
abbrev pub TakesOf : Option Bytes → Option Bytes → Bytes → Took → Type 0
TakesOf before now buffer (took.Took n) = Consumes before now (take n buffer)
TakesOf before now buffer took.End = Consumes before now [] × IsAtEnd now
TakesOf before now buffer took.Failed = Keeps before now

-- a writer whose bytes are known has those that were put
abbrev pub PutsTo : Option Bytes → Option Bytes → Bytes → Put → Type 0
PutsTo before now piece (put.Put n) = Appends before now (take n piece)
PutsTo before now piece put.Failed = Appends before now []
