-- The lines of a script as data, and how a line is read.
use Rattle.std.specs.Prelude.{ℕ, ◌+◌, ◌-◌, ◌^◌, ◌==◌, Bool, true, false, not, ◌&&◌, nat_lt, if◌then◌else◌, List, [], ◌∷◌, length, drop, Option, Some, None, option_and_then, unwrap_or, slice_get, codes, Result, Ok, Err}
use Rattle.std.specs.Result.{result_ok}
use Rattle.hex.specs.Hex.{decode_of}
use Rattle.vtep_base.specs.Chains.{◌>>=◌}
use Rattle.vtep_base.specs.Reading.{Bytes}
use Rattle.vtep_base.specs.Texts.{name_of, ipv4_of, vni_of, vlan_of, number_upto}
use Rattle.vtep_base.specs.declared.answers.Mode.{Mode}
use Rattle.vtep_base.specs.declared.answers.Mode.TheVariants.{Source, Service}
use Rattle.vtep_base.specs.declared.answers.LineReason.{LineReason}
use Rattle.vtep_base.specs.declared.answers.LineReason.TheVariants as reason
use Rattle.fabric_world.specs.declared.Refusal.{Refusal}
use Rattle.fabric_world.specs.declared.Kind.{Kind}
use Rattle.fabric_world.specs.declared.Kind.TheVariants as kind
use Rattle.vtep_base.specs.declared.shapes.Action.{Action}
use Rattle.vtep_base.specs.declared.shapes.Action.TheVariants.{Permit, Deny}
use Rattle.vtep_base.specs.declared.shapes.Direction.{Direction}
use Rattle.vtep_base.specs.declared.shapes.Direction.TheVariants.{Ingress, Egress}
use Rattle.fabric_world.specs.declared.fields.AclFields.{AclFields}
use Rattle.fabric_world.specs.declared.fields.AclField.{AclField}
use Rattle.fabric_world.specs.declared.Intent.TheVariants.{Switch, Bind, Acl, Guard, Unguard}
use Rattle.fabric_world.specs.declared.Line.TheVariants.{Gateway, Port, Unport, Intend, Frame, Underlay, Age, Rpc, Hangup, Settle, Show}
use Rattle.fabric_world.specs.declared.Instruction.{Instruction}
use Rattle.fabric_world.specs.declared.Instruction.TheVariants.{Do, End}
use Rattle.fabric_world.specs.Text.{Word, words, bad_byte}
use Rattle.fabric_world.specs.Acls.{no_fields, has_field, with_field}
use Rattle.fabric_world.specs.Fields.{is_word, field_of}

abbrev pub refuse : {A : Type 0} → ℕ → LineReason → Result A Refusal
refuse column why = Err (record { column = column; reason = why })

-- ---- what lines say

-- the first word of a kind
abbrev pub kind_text : Kind → Bytes
kind_text kind.Gateway = codes "gateway"
kind_text kind.Port = codes "port"
kind_text kind.Unport = codes "unport"
kind_text kind.Switch = codes "switch"
kind_text kind.Bind = codes "bind"
kind_text kind.Acl = codes "acl"
kind_text kind.Guard = codes "guard"
kind_text kind.Unguard = codes "unguard"
kind_text kind.Settle = codes "settle"
kind_text kind.Frame = codes "frame"
kind_text kind.Underlay = codes "underlay"
kind_text kind.Age = codes "age"
kind_text kind.Rpc = codes "rpc"
kind_text kind.Hangup = codes "hangup"
kind_text kind.Show = codes "show"
kind_text kind.End = codes "end"

abbrev pub kinds : List Kind
kinds = kind.Gateway ∷ kind.Port ∷ kind.Unport ∷ kind.Switch ∷ kind.Bind ∷ kind.Acl ∷ kind.Guard ∷ kind.Unguard ∷ kind.Settle ∷ kind.Frame ∷ kind.Underlay ∷ kind.Age ∷ kind.Rpc ∷ kind.Hangup ∷ kind.Show ∷ kind.End ∷ []

-- the first of the kinds that has this word
abbrev pub kind_among : Bytes → List Kind → Option Kind
kind_among word [] = None
kind_among word (k ∷ ks) = if is_word word (kind_text k) then Some k else kind_among word ks

abbrev pub kind_of : Bytes → Option Kind
kind_of word = kind_among word kinds

-- how many words follow the first, at least
abbrev pub arity : Kind → ℕ
arity kind.Gateway = 2
arity kind.Port = 2
arity kind.Unport = 2
arity kind.Switch = 3
arity kind.Bind = 4
arity kind.Acl = 4
arity kind.Guard = 4
arity kind.Unguard = 3
arity kind.Settle = 0
arity kind.Frame = 3
arity kind.Underlay = 2
arity kind.Age = 2
arity kind.Rpc = 3
arity kind.Hangup = 2
arity kind.Show = 1
arity kind.End = 0

-- the fields of an entry may follow
abbrev pub takes_fields : Kind → Bool
takes_fields kind.Acl = true
takes_fields _ = false

-- ---- the forms of words

abbrev pub mode_of : Bytes → Option Mode
mode_of word = if is_word word (codes "source") then Some Source else if is_word word (codes "service") then Some Service else None

abbrev pub not_zero : ℕ → Option ℕ
not_zero n = if n == 0 then None else Some n

-- session 0 is the controller's
abbrev pub session_of : Bytes → Option ℕ
session_of word = option_and_then not_zero (number_upto (2 ^ 32 - 1) word)

abbrev pub seconds_of : Bytes → Option ℕ
seconds_of word = number_upto 4294967295 word

abbrev pub sequence_of : Bytes → Option ℕ
sequence_of word = number_upto 4294967295 word

abbrev pub direction_of : Bytes → Option Direction
direction_of word = if is_word word (codes "in") then Some Ingress else if is_word word (codes "out") then Some Egress else None

abbrev pub action_of : Bytes → Option Action
action_of word = if is_word word (codes "permit") then Some Permit else if is_word word (codes "deny") then Some Deny else None

-- `-` is no bytes
abbrev pub hex_of : Bytes → Option Bytes
hex_of word = if is_word word (codes "-") then Some [] else if length word == 0 then None else result_ok (decode_of word)

abbrev pub value_at : {A : Type 0} → ℕ → Option A → Result A Refusal
value_at column None = refuse column reason.Value
value_at column (Some a) = Ok a

-- the value of the word at a place, by its form
abbrev pub by_word : {A : Type 0} → (Bytes → Option A) → Option Word → Result A Refusal
by_word form None = refuse 1 reason.Words
by_word form (Some w) = value_at w.column (form w.bytes)

abbrev pub word_at : {A : Type 0} → (Bytes → Option A) → List Word → ℕ → Result A Refusal
word_at form ws place = by_word form (slice_get ws place)

-- ---- fields

-- what the words so far give, and the column of the first that gives a field again
abbrev pub Matching : Type 0
Matching = AclFields × Option ℕ

abbrev pub taken : Matching → ℕ → AclField → Matching
taken m column f = if has_field m.0 f then (m.0, Some (unwrap_or m.1 column)) else (with_field m.0 f, m.1)

abbrev pub matching_from : Matching → List Word → Result Matching Refusal
matching_from m [] = Ok m
matching_from m (w ∷ ws) = value_at w.column (field_of w.bytes) >>= (λ f. matching_from (taken m w.column f) ws)

abbrev pub each_once : Matching → Result AclFields Refusal
each_once (fields, None) = Ok fields
each_once (fields, Some column) = refuse column reason.Repeated

-- the fields that words give, each with a value in its form, and no field twice
abbrev pub fields_of : List Word → Result AclFields Refusal
fields_of ws = matching_from (no_fields, None) ws >>= each_once

-- ---- lines

-- one clause for each kind: the forms of its words, in order
abbrev pub instruction : Kind → List Word → Result Instruction Refusal
instruction kind.Gateway ws = do
  g ← word_at name_of ws 1
  ip ← word_at ipv4_of ws 2
  Ok (Do (Gateway (record { g = g; ip = ip })))
instruction kind.Port ws = do
  g ← word_at name_of ws 1
  p ← word_at name_of ws 2
  Ok (Do (Port (record { g = g; p = p })))
instruction kind.Unport ws = do
  g ← word_at name_of ws 1
  p ← word_at name_of ws 2
  Ok (Do (Unport (record { g = g; p = p })))
instruction kind.Switch ws = do
  s ← word_at name_of ws 1
  vni ← word_at vni_of ws 2
  mode ← word_at mode_of ws 3
  Ok (Do (Intend (Switch s vni mode)))
instruction kind.Bind ws = do
  s ← word_at name_of ws 1
  g ← word_at name_of ws 2
  p ← word_at name_of ws 3
  v ← word_at vlan_of ws 4
  Ok (Do (Intend (Bind s g p v)))
instruction kind.Acl ws = do
  name ← word_at name_of ws 1
  sequence ← word_at sequence_of ws 2
  direction ← word_at direction_of ws 3
  action ← word_at action_of ws 4
  fields ← fields_of (drop 5 ws)
  Ok (Do (Intend (Acl name sequence direction action fields)))
instruction kind.Guard ws = do
  g ← word_at name_of ws 1
  p ← word_at name_of ws 2
  v ← word_at vlan_of ws 3
  name ← word_at name_of ws 4
  Ok (Do (Intend (Guard g p v name)))
instruction kind.Unguard ws = do
  g ← word_at name_of ws 1
  p ← word_at name_of ws 2
  v ← word_at vlan_of ws 3
  Ok (Do (Intend (Unguard g p v)))
instruction kind.Settle ws = Ok (Do (Settle (record {})))
instruction kind.Frame ws = do
  g ← word_at name_of ws 1
  p ← word_at name_of ws 2
  bytes ← word_at hex_of ws 3
  Ok (Do (Frame (record { g = g; p = p; hex = bytes })))
instruction kind.Underlay ws = do
  g ← word_at name_of ws 1
  bytes ← word_at hex_of ws 2
  Ok (Do (Underlay (record { g = g; hex = bytes })))
instruction kind.Age ws = do
  g ← word_at name_of ws 1
  n ← word_at seconds_of ws 2
  Ok (Do (Age (record { g = g; seconds = n })))
instruction kind.Rpc ws = do
  g ← word_at name_of ws 1
  s ← word_at session_of ws 2
  bytes ← word_at hex_of ws 3
  Ok (Do (Rpc (record { g = g; session = s; hex = bytes })))
instruction kind.Hangup ws = do
  g ← word_at name_of ws 1
  s ← word_at session_of ws 2
  Ok (Do (Hangup (record { g = g; session = s })))
instruction kind.Show ws = do
  g ← word_at name_of ws 1
  Ok (Do (Show (record { g = g })))
instruction kind.End ws = Ok End

-- ---- a line

abbrev pub end_of : Word → ℕ
end_of w = w.column + length w.bytes

-- one past the last byte of the last word, or the column that is given
abbrev pub end_behind : ℕ → List Word → ℕ
end_behind column [] = column
end_behind column (w ∷ ws) = end_behind (end_of w) ws

abbrev pub last_end : List Word → ℕ
last_end ws = end_behind 1 ws

abbrev pub column_of : Option Word → ℕ
column_of None = 1
column_of (Some w) = w.column

-- the column of the word at a place
abbrev pub column_at : List Word → ℕ → ℕ
column_at ws place = column_of (slice_get ws place)

-- no word is surplus, and none is missing
abbrev pub counted : Kind → List Word → Result Kind Refusal
counted k ws =
    if nat_lt (arity k + 1) (length ws) && not (takes_fields k) then refuse (column_at ws (arity k + 1)) reason.Words
    else if nat_lt (length ws) (arity k + 1) then refuse (last_end ws) reason.Words
    else Ok k

abbrev pub known_kind : List Word → Option Kind → Result Kind Refusal
known_kind ws None = refuse (column_at ws 0) reason.Command
known_kind ws (Some k) = Ok k

abbrev pub first_word : List Word → Bytes
first_word [] = []
first_word (w ∷ ws) = w.bytes

abbrev pub read_words : List Word → Result Instruction Refusal
read_words ws = do
  k ← known_kind ws (kind_of (first_word ws))
  checked ← counted k ws
  instruction checked ws

abbrev pub printable : Option ℕ → Bytes → Result Bytes Refusal
printable None line = Ok line
printable (Some column) line = refuse column reason.Byte

abbrev pub read_line : Bytes → Result Instruction Refusal
read_line line = do
  text ← printable (bad_byte line) line
  read_words (words text)

-- ---- a line of packets

abbrev pub only_word : List Word → Result Word Refusal
only_word [] = refuse 1 reason.Words
only_word (w ∷ []) = Ok w
only_word (w ∷ v ∷ ws) = refuse v.column reason.Words

-- the bytes of a packet are its one word
abbrev pub read_packet : Bytes → Result Bytes Refusal
read_packet line = do
  text ← printable (bad_byte line) line
  w ← only_word (words text)
  value_at w.column (hex_of w.bytes)
