-- Whole texts that say a message.
use Rattle.std.specs.Prelude.{◌≡◌, ◌≤◌, ℕ, ◌++◌, length, Some, IsUtf8}
use Rattle.json.specs.Json.{Json}
use Rattle.json.specs.Print.{print}
use Rattle.json.specs.Tree.{HasNumbers, json_tokens, depth as json_depth}
use Rattle.vtep_base.specs.Reading.{Bytes}
use Rattle.serde_json.specs.Data.{Data, depth}
use Rattle.serde_json.specs.Read.{of_json}
use Rattle.rpc_framing.specs.declared.scan.End.TheVariants.{At}
use Rattle.rpc_framing.specs.Said.{Message, Says, reading}
use Rattle.rpc_framing.specs.Scan.{end_of}
use Rattle.rpc_framing.specs.Streams.{past, Gives, next}
use Rattle.rpc_framing.specs.Division.{HasBrace, stream_from}

-- a text that begins with a brace, closes first at its last byte, and nests to 64 at most
pub record IsWhole (text : Bytes) : Type 0 where
  pub begins : HasBrace text
  pub ends : end_of (length text) text ≡ At (length text)

-- a whole text that says the message
pub record Tells (text : Bytes) (m : Message) : Type 0 where
  pub whole : IsWhole text
  pub says : Says text m

-- some whole text says the message
abbrev pub IsTold : Message → Type 0
IsTold m = (text : Bytes) × Tells text m

-- a whole text that is read as the value was appended
abbrev pub AppendsWhole : Bytes → Bytes → Data → Type 0
AppendsWhole old new d = (text : Bytes) × (new ≡ old ++ text) × IsWhole text × (reading text ≡ Some d)

-- a whole text that says the message was appended
abbrev pub AppendsTelling : Bytes → Bytes → Message → Type 0
AppendsTelling old new m = (text : Bytes) × (new ≡ old ++ text) × Tells text m

-- a stream that begins with a whole text gives what it says, and goes on behind it
abbrev pub WhatIsToldComes : Type 0
WhatIsToldComes = (limit at : ℕ) (text more : Bytes) (m : Message) → length text ≤ limit → Tells text m
    → next (stream_from limit (text ++ more) at) ≡ record { answer = Gives m; left = stream_from limit more (past at (length text)) }

-- for private clauses: the text is the tokens of some JSON that is the value and nests no deeper
pub record IsPrinted (text : Bytes) (d : Data) : Type 0 where
  pub json : Json
  pub prints : text ≡ print (json_tokens json)
  pub utf8 : IsUtf8 text
  pub numbers : HasNumbers json
  pub value : of_json json ≡ Some d
  pub shallow : json_depth json ≤ depth d
