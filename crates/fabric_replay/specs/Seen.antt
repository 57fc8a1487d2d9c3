-- How definitions see the words of the code, and what is known of what they say.
use Rattle.std.specs.Prelude.{◌≡◌, ℕ, suc, ◌+◌, ◌<◌, ◌≤◌, ◌^◌, length, Option, Some, None, Result, Ok, Err, ◌==◌, if◌then◌else◌, List, [], ◌∷◌}
use Rattle.vtep_base.specs.Answers.{OrMemory}
use Rattle.vtep_base.specs.Reading.{Bytes}
use Rattle.fabric_world.specs.Text as text
use Rattle.fabric_world.specs.declared.Refusal.{Refusal}
use Rattle.fabric_world.specs.declared.Line.{Line}
use Rattle.fabric_world.specs.declared.Line.TheVariants as line
use Rattle.fabric_world.specs.declared.Instruction.{Instruction}
use Rattle.fabric_world.specs.declared.Instruction.TheVariants.{Do, End}
use Rattle.fabric_replay.specs.declared.words.Word.{Word}
use Rattle.fabric_replay.specs.declared.lines.LineFault.{LineFault}
use Rattle.fabric_replay.specs.declared.lines.LineFault.TheVariants as line_fault

abbrev pub seen : Word → text.Word
seen w = record { column = w.column; bytes = w.bytes.now }

-- how many bytes stand before the first space
abbrev pub word_length : Bytes → ℕ
word_length [] = 0
word_length (b ∷ bs) = if b == 32 then 0 else suc (word_length bs)

-- the end of each word is a number of the code
abbrev pub AllFit : List Word → Type 0
AllFit [] = Unit {0}
AllFit (w ∷ ws) = (w.column + length w.bytes.now < 2 ^ 64) × AllFit ws

abbrev pub refusal_of : LineFault → Option Refusal
refusal_of line_fault.OutOfMemory = None
refusal_of (line_fault.Refused why) = Some why

-- an answer gives what reading gives, unless memory ran out
abbrev pub Fails : {A : Type 0} → LineFault → Result A Refusal → Type 0
Fails fault read = OrMemory (refusal_of fault) (λ why. read ≡ Err why)

abbrev pub Reads : {A : Type 0} → Result A LineFault → Result A Refusal → Type 0
Reads (Ok a) read = read ≡ Ok a
Reads (Err e) read = Fails e read

-- a line of a session is not one of session 0, the controller's
abbrev pub HasSession : Line → Type 0
HasSession (line.Rpc l) = 1 ≤ l.session
HasSession (line.Hangup l) = 1 ≤ l.session
HasSession _ = Unit {0}

abbrev pub DoesHaveSession : Instruction → Type 0
DoesHaveSession (Do line) = HasSession line
DoesHaveSession End = Unit {0}
