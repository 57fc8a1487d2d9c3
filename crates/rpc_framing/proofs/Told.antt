-- What comes from a stream is told, and what is told comes.
use Rattle.std.proofs.Common.{◌≡◌, ℕ, ◌+◌, ◌≤◌, Option, Some, None, [], ◌++◌, length, refl, ap, ◌∙◌, arith}
use Rattle.serde_json.specs.Data.{depth}
use Rattle.vtep_base.specs.Reading.{Bytes}
use Rattle.rpc_framing.specs.declared.scan.End.TheVariants.{At}
use Rattle.rpc_framing.specs.Said.{Message, message_of}
use Rattle.rpc_framing.specs.Written.{message_json}
use Rattle.rpc_framing.specs.Scan.{end_of, at_start}
use Rattle.rpc_framing.specs.declared.Framing.{Framing}
use Rattle.rpc_framing.specs.Streams.{Stream, past, white, Gives, next}
use Rattle.rpc_framing.specs.Division.{HasBrace, IsNext, stream_from}
use Rattle.rpc_framing.specs.Told.{Tells, IsTold, WhatIsToldComes}
use Rattle.rpc_framing.proofs.Scanned.{fits}
use Rattle.rpc_framing.proofs.Divided.{next_stands, next_of}
use Rattle.rpc_framing.proofs.Parts.{said_own}
use Rattle.rpc_framing.proofs.Values.{read_tokens}
use Rattle.rpc_framing.proofs.Nested.{whole_is_shallow}

no_white : (text more : Bytes) → HasBrace text → white (text ++ more) ≡ 0
no_white text more h = ap (λ t. white (t ++ more)) h.1

pub what_is_told_comes : WhatIsToldComes
what_is_told_comes limit at text more m within told =
    let whole : end_of limit text ≡ At (length text) = fits (length text) limit 0 at_start text (length text) told.whole.ends (omega (arith, within)) in
    let is : IsNext limit (text ++ more) m more = record {
      space = [];
      bytes = text ++ more;
      text = text;
      behind = record { parts = refl; blank = refl; ends = no_white text more told.whole.begins };
      has = record { parts = refl; begins = told.whole.begins; whole = whole };
      says = told.says;
    } in
    let n : 0 + length text ≡ length text = omega arith in
    next_stands limit at (text ++ more) more m is ∙ ap (λ k. record { answer = Gives m; left = stream_from limit more (past at k) }) n

-- the value that is written for a message that is told says it, and nests to 64 at most
pub told_own : (text : Bytes) (m : Message) → Tells text m → (message_of (message_json m) ≡ Some m) × (depth (message_json m) ≤ 64)
told_own text m told =
    let d = told.says.0 in
    let read = read_tokens text d told.says.1 in
    let own = said_own d m told.says.2 in
    (own.0, omega (arith, own.1, read.shallow, whole_is_shallow text read.tree told.whole read.same))

-- a message that comes is told
pub next_told : (s : Stream) (m : Message) → (next s).answer ≡ Gives m → IsTold m
next_told s m e = by s.limit s.rest s.at s.refused e
  where
    by : (limit : ℕ) (rest : Bytes) (at : ℕ) (r : Option Framing) → (next (record { limit = limit; rest = rest; at = at; refused = r })).answer ≡ Gives m → IsTold m
    by limit rest at None e =
        let d = (next_of limit at rest m e).1 in
        let ends = fits limit (length d.text) 0 at_start d.text (length d.text) d.has.whole (omega arith) in
        (d.text, record { whole = record { begins = d.has.begins; ends = ends }; says = d.says })
    by limit rest at (Some f) e = absurd (cc)
