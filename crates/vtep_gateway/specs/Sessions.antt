-- What a gateway does with the messages of a session.
use Rattle.std.specs.Prelude.{ℕ, ◌-◌, ◌^◌, ◌==◌, if◌then◌else◌, List, [], ◌∷◌, ◌++◌, unwrap_or, Result, Ok, Err}
use Rattle.serde_json.specs.Data.{Data, null, string}
use Rattle.vtep_base.specs.Reading.{Bytes}
use Rattle.vtep_base.specs.Refusals.{word_text}
use Rattle.vtep_base.specs.Maps as maps
use Rattle.vtep_base.specs.declared.words.Word.{Word}
use Rattle.rpc_framing.specs.Said.{Message, Request, Response}
use Rattle.rpc_framing.specs.Written.{message_text}
use Rattle.rpc_framing.specs.Streams.{Stream, opened, fed}
use Rattle.rpc_framing.specs.Pieces.{Coming, come}
use Rattle.vtep_gateway.specs.declared.Outgoing.{Outgoing}
use Rattle.vtep_gateway.specs.Vtep.{Vtep}
use Rattle.vtep_gateway.specs.Commit.{Taken, quiet}
use Rattle.vtep_gateway.specs.Methods.{Done, method_of, called}
use Rattle.vtep_gateway.specs.Gateway.{Gateway, Streams, Step, nothing}

abbrev pub then_takes : List Outgoing → Taken → Taken
then_takes sends later = record later { sends = sends ++ later.sends }

abbrev pub response : Result Data Word → Data → Message
response (Ok d) id = Response d null id
response (Err w) id = Response null (string (word_text w)) id

abbrev pub outgoing : ℕ → Message → Outgoing
outgoing s m = record { session = s; bytes = message_text m }

-- the reply comes last
abbrev pub replied : ℕ → Data → Done → Taken
replied s id d = record { vtep = d.vtep; sends = d.before ++ outgoing s (response d.result id) ∷ [] }

-- notifications and responses are ignored
abbrev pub take : Vtep → ℕ → Message → Taken
take v s (Request method params id) = replied s id (called v s (method_of method) params)
take v s _ = quiet v

abbrev pub take_all : Vtep → ℕ → List Message → Taken
take_all v s [] = quiet v
take_all v s (m ∷ ms) = then_takes (take v s m).sends (take_all (take v s m).vtep s ms)

-- ---- a piece of a session's bytes

-- session 0 is the controller of the fabric
abbrev pub limit_of : ℕ → ℕ
limit_of s = if s == 0 then 2 ^ 64 - 1 else 2 ^ 25

abbrev pub stream_of : Streams → ℕ → Stream
stream_of streams s = unwrap_or (maps.get streams s) (opened (limit_of s))

abbrev pub answered : Gateway → ℕ → Coming → Taken → Step
answered g s c t = record {
  gateway = record g { vtep = t.vtep; streams = maps.insert g.streams s c.end };
  answer = record nothing { sends = t.sends; failed = c.end.refused };
}

-- the messages that the stream now holds are answered in order, and what is left of it is kept
abbrev pub on_stream : Gateway → ℕ → Coming → Step
on_stream g s c = answered g s c (take_all g.vtep s c.messages)

abbrev pub on_bytes : Gateway → ℕ → Bytes → Step
on_bytes g s piece = on_stream g s (come (fed (stream_of g.streams s) piece))
