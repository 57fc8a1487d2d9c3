-- A script: its lines one after another, what they write, and what a run may have read and written by its answer.
use Rattle.std.specs.Prelude.{◌≡◌, ◌⊎◌, ℕ, ◌+◌, ◌^◌, ◌<◌, ◌≤◌, Bool, false, ◌&&◌, if◌then◌else◌, List, [], ◌∷◌, ◌++◌, length, take, Option, Some, None, codes, decimal, Result, Ok, Err}
use Rattle.vtep_base.specs.Reading.{Bytes}
use Rattle.vtep_base.specs.Outside.{Grows, Shrinks, IsSpent, Rose, counted, SourceState, SinkState}
use Rattle.vtep_base.specs.Memory.{joined}
use Rattle.vtep_base.specs.declared.answers.LineReason.{LineReason}
use Rattle.vtep_base.specs.declared.answers.LineReason.TheVariants as reason
use Rattle.vtep_base.specs.declared.answers.Status.{Status}
use Rattle.vtep_base.specs.declared.answers.Status.TheVariants as status
use Rattle.fabric_world.specs.Text.{cut, Word, words, is_skipped, bad_byte}
use Rattle.fabric_world.specs.declared.Form.{Form}
use Rattle.fabric_world.specs.declared.Form.TheVariants as form
use Rattle.fabric_world.specs.declared.Refusal.{Refusal}
use Rattle.fabric_world.specs.declared.Instruction.{Instruction}
use Rattle.fabric_world.specs.declared.Instruction.TheVariants.{Do, End}
use Rattle.fabric_world.specs.declared.Fault.{Fault}
use Rattle.vtep_base.specs.Reading.{same_bytes}
use Rattle.fabric_world.specs.Lines.{read_line, read_packet, column_at}
use Rattle.fabric_world.specs.Outputs.{outputs_text, packet_text}
use Rattle.fabric_world.specs.World.{World, Outcome, start, run}

-- ---- one line after another

-- where a script stands, with the number of the next line
pub data Stage : Type 0 where
  Waiting : ℕ → Stage  -- no line had words
  Going : ℕ → World → Stage
  Over : Stage  -- the end line was run
  Stopped : ℕ → Refusal → Stage  -- the line that was refused
  Inspecting : ℕ → Stage  -- each line is a packet

-- what was written, and where the script stands then
pub record Played : Type 0 where
  pub text : Bytes
  pub stage : Stage

abbrev pub silent : Stage → Played
silent stage = record { text = []; stage = stage }

abbrev pub refused : ℕ → ℕ → LineReason → Played
refused n column why = silent (Stopped n (record { column = column; reason = why }))

-- a line was run, or it is refused at its word
abbrev pub ran : ℕ → List Word → Result Outcome Fault → Played
ran n ws (Ok r) = record { text = outputs_text r.output; stage = Going (n + 1) r.world }
ran n ws (Err why) = refused n (column_at ws why.word) why.reason

abbrev pub run_instruction : ℕ → World → List Word → Result Instruction Refusal → Played
run_instruction n w ws (Err why) = silent (Stopped n why)
run_instruction n w ws (Ok End) = silent Over
run_instruction n w ws (Ok (Do line)) = ran n ws (run w line)

-- the first line with words is `fabric 1`
abbrev pub is_opening : List Word → Bool
is_opening (a ∷ b ∷ []) = same_bytes a.bytes (codes "fabric") && same_bytes b.bytes (codes "1")
is_opening _ = false

abbrev pub open_by : ℕ → List Word → Option ℕ → Played
open_by n ws (Some column) = refused n column reason.Byte
open_by n ws None = if is_opening ws then silent (Going (n + 1) start) else refused n 1 reason.First

abbrev pub inspected : ℕ → Result Bytes Refusal → Played
inspected n (Err why) = silent (Stopped n why)
inspected n (Ok bytes) = record { text = packet_text bytes; stage = Inspecting (n + 1) }

-- a line
abbrev pub play_one : Stage → Bytes → Played
play_one (Waiting n) line = if is_skipped (words line) then silent (Waiting (n + 1)) else open_by n (words line) (bad_byte line)
play_one (Going n w) line = if is_skipped (words line) then silent (Going (n + 1) w) else run_instruction n w (words line) (read_line line)
play_one Over line = silent Over
play_one (Stopped n why) line = silent (Stopped n why)
play_one (Inspecting n) line = if is_skipped (words line) then silent (Inspecting (n + 1)) else inspected n (read_packet line)

-- what is written behind what was written before
abbrev pub behind : Bytes → Played → Played
behind text p = record { text = text ++ p.text; stage = p.stage }

abbrev pub play : Stage → List Bytes → Played
play stage [] = silent stage
play stage (line ∷ lines) = behind (play_one stage line).text (play (play_one stage line).stage lines)

-- ---- a whole text

-- the whole lines, from the stage before the first
abbrev pub played : Stage → Bytes → Played
played first text = play first (cut [] text).0

-- the last line, which lacks its line feed
abbrev pub play_rest : Stage → Bytes → Played
play_rest stage [] = silent stage
play_rest stage (b ∷ bs) = play_one stage (b ∷ bs)

-- a script that is neither over nor refused when its text ends is refused at the next line; packets are over then
abbrev pub ended_by : Played → Stage → Played
ended_by p (Waiting n) = behind p.text (refused n 1 reason.First)
ended_by p (Going n w) = behind p.text (refused n 1 reason.End)
ended_by p Over = p
ended_by p (Stopped n why) = p
ended_by p (Inspecting n) = behind p.text (silent Over)

abbrev pub ended : Played → Played
ended p = ended_by p p.stage

-- where no more may be read, what is not over is refused at the next line
abbrev pub full : Stage → Played
full (Waiting n) = refused n 1 reason.Long
full (Going n w) = refused n 1 reason.Long
full Over = silent Over
full (Stopped n why) = silent (Stopped n why)
full (Inspecting n) = refused n 1 reason.Long

-- how the reading of the text ended
pub data Reading : Type 0 where
  Short : Reading  -- there may be more
  Ended : Reading  -- there was no more
  Full : Reading  -- no more may be read

-- what comes of a stage at the end of the reading, where `rest` stands behind the last line feed
abbrev pub closing : Reading → Stage → Bytes → Played
closing Short stage rest = silent stage
closing Ended stage rest = ended (play_rest stage rest)
closing Full stage rest = full stage

-- what comes of a text, by how its reading ended
abbrev pub Meaning : Type 0
Meaning = Reading → Bytes → Played

-- of the text behind some bytes that have no line feed, where a script stands at a stage
abbrev pub read_behind : Bytes → Stage → Meaning
read_behind front stage how text = behind (play stage (cut front text).0).text (closing how (play stage (cut front text).0).stage (cut front text).1)

abbrev pub read_as : Stage → Meaning
read_as first = read_behind [] first

abbrev pub reason_text : LineReason → Bytes
reason_text reason.Byte = codes "byte"
reason_text reason.First = codes "first"
reason_text reason.Command = codes "command"
reason_text reason.Words = codes "words"
reason_text reason.Value = codes "value"
reason_text reason.Unknown = codes "unknown"
reason_text reason.Repeated = codes "repeated"
reason_text reason.Limit = codes "limit"
reason_text reason.Use = codes "use"
reason_text reason.End = codes "end"
reason_text reason.Long = codes "long"

-- the line of a refusal, where there is one
abbrev pub refusal_text : Stage → Bytes
refusal_text (Stopped n why) = joined (codes "refused " ∷ decimal n ∷ codes " " ∷ decimal why.column ∷ codes " " ∷ reason_text why.reason ∷ codes "\n" ∷ [])
refusal_text _ = []

abbrev pub shown : Played → Bytes
shown p = p.text ++ refusal_text p.stage

-- where a form begins
abbrev pub first_of : Form → Stage
first_of form.Replay = Waiting 1
first_of form.Inspect = Inspecting 1

-- the output of a whole text
abbrev pub output : Form → Bytes → Bytes
output f text = shown (read_as (first_of f) Ended text)

-- ---- what a run may have read and written

abbrev pub IsOver : Stage → Type 0
IsOver Over = Unit {0}
IsOver _ = ⊥

abbrev pub IsStopped : Stage → Type 0
IsStopped (Stopped n why) = Unit {0}
IsStopped _ = ⊥

abbrev pub IsGoing : Stage → Type 0
IsGoing (Waiting n) = Unit {0}
IsGoing (Going n w) = Unit {0}
IsGoing (Inspecting n) = Unit {0}
IsGoing _ = ⊥

abbrev pub most_bytes : ℕ
most_bytes = 2 ^ 28

-- how many bytes may be taken before those before them are run
abbrev pub most_ahead : ℕ
most_ahead = 2 ^ 12

-- the source answered End once, and no byte is left where it tells them
pub record HasEnded (before now : SourceState) : Type 0 where
  pub ended : now.ends ≡ counted before.ends
  pub spent : IsSpent now.left

-- the source ended in this run, or it did not, and all that may be read was read
abbrev pub IsReading : SourceState → SourceState → Bytes → Reading → Type 0
IsReading before now text Short = now.ends ≡ before.ends
IsReading before now text Ended = HasEnded before now
IsReading before now text Full = (length text ≡ most_bytes) × (now.ends ≡ before.ends)

pub record IsPrefix (front whole : Bytes) : Type 0 where
  pub rest : Bytes
  pub joined : whole ≡ front ++ rest

-- what was written for what was read, by the answer
abbrev pub Answers : Played → Reading → Bytes → Status → Type 0
Answers p how written status.Done = IsOver p.stage × (written ≡ p.text)
Answers p how written status.Refused = IsStopped p.stage × (written ≡ shown p)
Answers p Short written status.ReadFault = IsGoing p.stage × (written ≡ p.text)
Answers p how written status.WriteFault = IsPrefix written (shown p)
Answers p how written status.NoMemory = IsPrefix written (shown p)
Answers p how written _ = ⊥

-- before the last bytes were taken, those before them were run, what these wrote was written, and the run was not at its end
pub record InStep (meaning : Meaning) (text written : Bytes) : Type 0 where
  pub earlier : Bytes
  pub last : Bytes
  pub taken : text ≡ earlier ++ last
  pub few : length last ≤ most_ahead
  pub going : IsGoing (meaning Short earlier).stage
  pub output : IsPrefix (meaning Short earlier).text written

-- a run took a text and wrote its output
pub record Replays (meaning : Meaning) (source source_after : SourceState) (text written : Bytes) (answer : Status) : Type 0 where
  pub how : Reading
  pub read : IsReading source source_after text how
  pub answers : Answers (meaning how text) how written answer
  pub in_step : InStep meaning text written
  pub most : length text ≤ most_bytes

-- ---- the words of the program

abbrev pub form_of : List Bytes → Option Form
form_of (word ∷ []) = if same_bytes word (codes "replay") then Some form.Replay else if same_bytes word (codes "inspect") then Some form.Inspect else None
form_of _ = None

abbrev pub usage_line : Bytes
usage_line = codes "usage: replay | replay --generate n | inspect | serve name ip address sessions port...\n"

-- where the words are of no form nothing is read, and the usage line is written
abbrev pub AnswersUsage : Bytes → Status → Type 0
AnswersUsage written status.Usage = written ≡ usage_line
AnswersUsage written status.WriteFault = IsPrefix written usage_line
AnswersUsage written _ = ⊥

abbrev pub AnswersForm : Option Form → SourceState → SourceState → Bytes → Bytes → Status → Type 0
AnswersForm None source source_after text written answer = (text ≡ []) × (source_after.ends ≡ source.ends) × AnswersUsage written answer
AnswersForm (Some f) source source_after text written answer = Replays (read_as (first_of f)) source source_after text written answer

-- what a run read and wrote, and how it answered: the three meet a relation, and so does the source
pub record Ran (meets : SourceState → SourceState → Bytes → Bytes → Status → Type 0) (source source_after : SourceState) (sink sink_after : SinkState) (answer : Status) : Type 0 where
  pub text : Bytes
  pub written : Bytes
  pub took : Grows source.taken text source_after.taken
  pub left : Shrinks source.left text source_after.left
  pub wrote : Grows sink.written written sink_after.written
  pub answers : meets source source_after text written answer
  pub read_fault : answer ≡ status.ReadFault → Rose source.faults source_after.faults
  pub write_fault : answer ≡ status.WriteFault → Rose sink.faults sink_after.faults
  pub source_faults : source.faults ≤ source_after.faults
  pub sink_faults : sink.faults ≤ sink_after.faults

-- the text is not refused, and its end can be reached
pub record IsAccepted (first : Stage) (text : Bytes) : Type 0 where
  pub over : IsOver (read_as first Ended text).stage
  pub reached : (length text < most_bytes) ⊎ IsOver (played first (take most_bytes text)).stage

-- where no count of faults rises, a text that is not refused is run whole, unless memory runs out
abbrev pub Completes : Form → SourceState → SourceState → SinkState → SinkState → Status → Type 0
Completes f source source_after sink sink_after answer =
    (text : Bytes) → source.left ≡ Some text → IsAccepted (first_of f) text
    → (Rose source.faults source_after.faults → ⊥) → (Rose sink.faults sink_after.faults → ⊥)
    → (answer ≡ status.NoMemory) ⊎ ((answer ≡ status.Done) × Grows sink.written (output f text) sink_after.written)
