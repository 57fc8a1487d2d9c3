-- The messages of a stream, as they are meant: white space and whole texts in turn.
use Rattle.std.specs.Prelude.{◌≡◌, ℕ, ◌+◌, List, [], ◌∷◌, ◌++◌, ◌⊎◌, ◌↔◌, length, Some, None}
use Rattle.vtep_base.specs.Reading.{Bytes}
use Rattle.serde_json.specs.Data.{Data}
use Rattle.rpc_framing.specs.declared.FramingKind.{FramingKind}
use Rattle.rpc_framing.specs.declared.FramingKind.TheVariants.{NotObject, TooDeep, TooLong, BadJson, BadMessage}
use Rattle.rpc_framing.specs.declared.scan.End.{End}
use Rattle.rpc_framing.specs.declared.scan.End.TheVariants.{At, Open, Refused}
use Rattle.rpc_framing.specs.Said.{Message, Says, message_of, reading}
use Rattle.rpc_framing.specs.Scan.{end_of}
use Rattle.rpc_framing.specs.Streams.{Stream, white, past, refusal}
use Rattle.rpc_framing.specs.Pieces.{Comes}

-- white space, and then what does not begin with any
pub record HasWhite (stream space bytes : Bytes) : Type 0 where
  pub parts : stream ≡ space ++ bytes
  pub blank : white space ≡ length space
  pub ends : white bytes ≡ 0

abbrev pub HasBrace : Bytes → Type 0
HasBrace bytes = (tail : Bytes) × (bytes ≡ 123 ∷ tail)

-- a text that begins with a brace and ends where its bracket closes, within the limit, and more
pub record HasText (limit : ℕ) (bytes text more : Bytes) : Type 0 where
  pub parts : bytes ≡ text ++ more
  pub begins : HasBrace text
  pub whole : end_of limit text ≡ At (length text)

-- a text is open to its end: within the limit, no bracket makes the depth 65, and none closes it
abbrev pub IsOpen : End → Type 0
IsOpen (Open c) = Unit {0}
IsOpen _ = ⊥

-- nothing, or a text that has begun
abbrev pub HasBegun : ℕ → Bytes → Type 0
HasBegun limit [] = Unit {0}
HasBegun limit (b ∷ bs) = (b ≡ 123) × IsOpen (end_of limit (b ∷ bs))

-- a whole text of which something holds
abbrev pub HasFalse : ℕ → Bytes → (Bytes → Type 0) → Type 0
HasFalse limit bytes P = (text : Bytes) × (more : Bytes) × HasText limit bytes text more × P text

-- what is wrong with the bytes behind white space, and the place among them
abbrev pub HasFault : ℕ → Bytes → ℕ → FramingKind → Type 0
HasFault limit bytes place NotObject = (place ≡ 0) × (b : ℕ) × (tail : Bytes) × (bytes ≡ b ∷ tail) × (b ≡ 123 → ⊥)
HasFault limit bytes place TooDeep = HasBrace bytes × (end_of limit bytes ≡ Refused place TooDeep)
HasFault limit bytes place TooLong = HasBrace bytes × (end_of limit bytes ≡ Refused place TooLong)
HasFault limit bytes place BadJson = (place ≡ 0) × HasFalse limit bytes (λ text. reading text ≡ None)
HasFault limit bytes place BadMessage = (place ≡ 0) × HasFalse limit bytes (λ text. (d : Data) × (reading text ≡ Some d) × (message_of d ≡ None))

-- white space, a whole text that says the message, and more
pub record IsNext (limit : ℕ) (stream : Bytes) (m : Message) (more : Bytes) : Type 0 where
  pub space : Bytes
  pub bytes : Bytes
  pub text : Bytes
  pub behind : HasWhite stream space bytes
  pub has : HasText limit bytes text more
  pub says : Says text m

-- a stream of which nothing was taken, and that is not refused
abbrev pub stream_from : ℕ → Bytes → ℕ → Stream
stream_from limit rest at = record { limit = limit; rest = rest; at = at; refused = None }

-- no further message, and no fault: the rest begins behind the white space
pub record Rests (limit at : ℕ) (stream : Bytes) (end : Stream) : Type 0 where
  pub space : Bytes
  pub bytes : Bytes
  pub behind : HasWhite stream space bytes
  pub begun : HasBegun limit bytes
  pub left : end ≡ stream_from limit bytes (past at (length space))

-- a fault behind the white space
pub record Fails (limit at : ℕ) (stream : Bytes) (end : Stream) : Type 0 where
  pub space : Bytes
  pub bytes : Bytes
  pub place : ℕ
  pub kind : FramingKind
  pub behind : HasWhite stream space bytes
  pub fault : HasFault limit bytes place kind
  pub left : end ≡ (refusal limit (record { offset = past at (length space + place); kind = kind })).left

-- a stream, which begins at an offset, is the texts of these messages, and then a rest or a fault
abbrev pub Divides : ℕ → ℕ → Bytes → List Message → Stream → Type 0
Divides limit at stream [] end = Rests limit at stream end ⊎ Fails limit at stream end
Divides limit at stream (m ∷ ms) end = (more : Bytes) × (d : IsNext limit stream m more) × Divides limit (past at (length d.space + length d.text)) more ms end

-- what comes from a stream is what its division gives
abbrev pub WhatStandsComes : Type 0
WhatStandsComes = (limit at : ℕ) (stream : Bytes) (ms : List Message) (end : Stream) → Comes (stream_from limit stream at) ms end ↔ Divides limit at stream ms end
