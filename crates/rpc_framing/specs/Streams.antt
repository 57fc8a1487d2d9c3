-- The messages of a stream.
use Rattle.std.specs.Prelude.{ℕ, suc, ◌+◌, ◌^◌, ◌-◌, ◌≤◌, min, Bool, ◌||◌, ◌==◌, if◌then◌else◌, [], ◌∷◌, ◌++◌, length, take, drop, Option, Some, None, refl}
use Rattle.std.specs.Coded.{Coded, code_by, coded×, coded_ℕ, coded_list, coded_option}
use Rattle.serde_json.specs.Data.{Data}
use Rattle.vtep_base.specs.Reading.{Bytes}
use Rattle.rpc_framing.specs.Said.{Message, message_of, reading, said}
use Rattle.rpc_framing.specs.Scan.{end_of, IsHeld}
use Rattle.rpc_framing.specs.declared.scan.Cursor.{Cursor}
use Rattle.rpc_framing.specs.declared.scan.End.{End}
use Rattle.rpc_framing.specs.declared.scan.End.TheVariants.{At, Open, Refused}
use Rattle.rpc_framing.specs.declared.FramingKind.{FramingKind}
use Rattle.rpc_framing.specs.declared.FramingKind.TheVariants.{NotObject, BadJson, BadMessage}
use Rattle.rpc_framing.specs.declared.Framing.{Framing}
use Rattle.rpc_framing.specs.contracts.Framing as framing
use Rattle.rpc_framing.specs.declared.reading.Front.{Front as Found}
use Rattle.rpc_framing.specs.declared.reading.Front.TheVariants as found

abbrev pub is_white : ℕ → Bool
is_white b = (b == 32) || (b == 9) || (b == 13) || (b == 10)

-- how many white bytes stand in front
abbrev pub white : Bytes → ℕ
white [] = 0
white (b ∷ bs) = if is_white b then suc (white bs) else 0

-- the bytes behind them
abbrev pub unwhite : Bytes → Bytes
unwhite bytes = drop (white bytes) bytes

-- an offset and so many bytes more. It stays at the last that 64 bits tell.
abbrev pub past : ℕ → ℕ → ℕ
past at n = min (at + n) (2 ^ 64 - 1)

-- what stands at the front: nothing whole, a fault at a place, or a text of a length and its message
pub data Front : Type 0 where
  Waiting : Front
  Bad : ℕ → FramingKind → Front
  Text : ℕ → Message → Front

-- the front that the code found
abbrev pub seen_front : Found → Front
seen_front (found.Waiting c) = Waiting
seen_front (found.Bad i kind) = Bad i kind
seen_front (found.Text n m) = Text n (said m)

abbrev pub IfWaiting : Found → (Cursor → Type 0) → Type 0
IfWaiting (found.Waiting c) P = P c
IfWaiting _ P = Unit {0}

abbrev pub IfText : Found → (ℕ → Type 0) → Type 0
IfText (found.Text n m) P = P n
IfText _ P = Unit {0}

abbrev pub judged : ℕ → Option Message → Front
judged n None = Bad 0 BadMessage
judged n (Some m) = Text n m

abbrev pub read_front : ℕ → Option Data → Front
read_front n None = Bad 0 BadJson
read_front n (Some d) = judged n (message_of d)

abbrev pub text_front : Bytes → End → Front
text_front bytes (Open c) = Waiting
text_front bytes (Refused i kind) = Bad i kind
text_front bytes (At n) = read_front n (reading (take n bytes))

abbrev pub front : ℕ → Bytes → Front
front limit [] = Waiting
front limit (b ∷ bs) = if b == 123 then text_front (b ∷ bs) (end_of limit (b ∷ bs)) else Bad 0 NotObject

-- a stream of which messages were taken: the rest, where it begins, and the refusal
pub record Stream : Type 0 where
  pub limit : ℕ
  pub rest : Bytes
  pub at : ℕ
  pub refused : Option Framing

abbrev pub stream_code : Coded Stream
stream_code =
    code_by (ℕ × (Bytes × (ℕ × Option Framing))) (coded× coded_ℕ (coded× (coded_list coded_ℕ) (coded× coded_ℕ (coded_option (framing.the_row).coded))))
    (λ s. (s.limit, (s.rest, (s.at, s.refused)))) (λ p. record { limit = p.0; rest = p.1.0; at = p.1.1.0; refused = p.1.1.1 }) (λ _. refl)

abbrev pub opened : ℕ → Stream
opened limit = record { limit = limit; rest = []; at = 0; refused = None }

-- a piece more. After a refusal nothing is kept.
abbrev pub fed_by : Stream → Bytes → Option Framing → Stream
fed_by s piece None = record { limit = s.limit; rest = s.rest ++ piece; at = s.at; refused = None }
fed_by s piece (Some f) = s

abbrev pub fed : Stream → Bytes → Stream
fed s piece = fed_by s piece s.refused

pub data Answer : Type 0 where
  Waits : Answer
  Gives : Message → Answer
  Refuses : Framing → Answer

-- what comes next, and what is left
pub record Next : Type 0 where
  pub answer : Answer
  pub left : Stream

abbrev pub refusal : ℕ → Framing → Next
refusal limit f = record { answer = Refuses f; left = record { limit = limit; rest = []; at = f.offset; refused = Some f } }

abbrev pub next_by : ℕ → Bytes → ℕ → Front → Next
next_by limit bytes at Waiting = record { answer = Waits; left = record { limit = limit; rest = bytes; at = at; refused = None } }
next_by limit bytes at (Bad i kind) = refusal limit (record { offset = past at i; kind = kind })
next_by limit bytes at (Text n m) = record { answer = Gives m; left = record { limit = limit; rest = drop n bytes; at = past at n; refused = None } }

abbrev pub next_from : ℕ → Bytes → ℕ → Next
next_from limit bytes at = next_by limit bytes at (front limit bytes)

abbrev pub next_unless : Stream → Option Framing → Next
next_unless s None = next_from s.limit (unwhite s.rest) (past s.at (white s.rest))
next_unless s (Some f) = record { answer = Refuses f; left = s }

abbrev pub next : Stream → Next
next s = next_unless s s.refused

-- what an answer says
abbrev pub answered : Option Message → Answer
answered None = Waits
answered (Some m) = Gives m

-- the code keeps bytes, where the rest begins among them, and how far it was looked at
pub record IsKept (limit : ℕ) (bytes : Bytes) (start count : ℕ) (c : Cursor) : Type 0 where
  pub within : start ≤ length bytes
  pub held : IsHeld limit (drop start bytes) count c
