-- A stream that is taken piece by piece.
use Rattle.std.specs.Prelude.{◌≡◌, ◌↔◌, ℕ, zero, suc, List, [], ◌∷◌, ◌++◌, length, Option, Some, None}
use Rattle.vtep_base.specs.Reading.{Bytes}
use Rattle.rpc_framing.specs.Said.{Message}
use Rattle.rpc_framing.specs.Streams.{Stream, fed, Answer, Waits, Gives, Refuses, next}
use Rattle.rpc_framing.specs.declared.Framing.{Framing}

-- no message comes
abbrev pub IsEnd : Answer → Type 0
IsEnd Waits = Unit {0}
IsEnd (Gives m) = ⊥
IsEnd (Refuses f) = Unit {0}

-- these messages come, and no further one: the stream then waits or is refused
abbrev pub Comes : Stream → List Message → Stream → Type 0
Comes s [] end = IsEnd (next s).answer × ((next s).left ≡ end)
Comes s (m ∷ ms) end = ((next s).answer ≡ Gives m) × Comes (next s).left ms end

-- the messages of a stream in turn, and what is left of it, which waits or is refused
pub record Coming : Type 0 where
  pub messages : List Message
  pub end : Stream

abbrev pub no_more : Stream → Coming
no_more end = record { messages = []; end = end }

abbrev pub and_then : Message → Coming → Coming
and_then m more = record { messages = m ∷ more.messages; end = more.end }

abbrev pub come_within : ℕ → Stream → Coming
come_within zero s = no_more s
come_within (suc turns) s =
    elim (next s).answer [ Gives m ↦ and_then m (come_within turns (next s).left) | Waits ↦ no_more (next s).left | Refuses f ↦ no_more (next s).left ]

-- a message has a byte at least
abbrev pub come : Stream → Coming
come s = come_within (suc (length s.rest)) s

-- what comes, where a message was taken or none is there
abbrev pub comes_after : Option Message → Stream → Coming
comes_after None left = no_more left
comes_after (Some m) left = and_then m (come left)

-- each stream has these messages and this end, and no others
abbrev pub OneDivision : Stream → Type 0
OneDivision s = (ms : List Message) (end : Stream) → Comes s ms end ↔ (come s ≡ record { messages = ms; end = end })

-- taking what comes before a further piece changes nothing of what comes
abbrev pub CutsDoNotMatter : Type 0
CutsDoNotMatter = (s t end : Stream) (piece : Bytes) (ms more : List Message) → Comes s ms t → Comes (fed t piece) more end → Comes (fed s piece) (ms ++ more) end

-- a refused stream stays as it is
abbrev pub StaysRefused : Type 0
StaysRefused = (s : Stream) (f : Framing) (piece : Bytes) → (next s).answer ≡ Refuses f
    → (next (next s).left ≡ record { answer = Refuses f; left = (next s).left }) × (fed (next s).left piece ≡ (next s).left)
