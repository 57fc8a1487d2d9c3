-- What the parts of a run wrote, and how they answered.
use Rattle.std.specs.Prelude.{◌≡◌, ℕ, ◌+◌, ◌≤◌, ◌++◌, length, Option, Some, None, Result, Ok, Err}
use Rattle.vtep_base.specs.Reading.{Bytes}
use Rattle.vtep_base.specs.Outside.{SourceState, SinkState, Grows, Shrinks, Rose}
use Rattle.vtep_base.specs.declared.answers.Status.{Status}
use Rattle.vtep_base.specs.declared.answers.Status.TheVariants as status
use Rattle.fabric_replay.specs.Stages.{IsUnread}
use Rattle.fabric_world.specs.Script.{Stage, Waiting, Going, Over, Stopped, Inspecting, Played, behind, Reading, Short, Meaning, IsPrefix, IsGoing, Answers, AnswersUsage, most_bytes}

-- all bytes were written, or a front of them before the sink failed
pub record PutsFront (old new : SinkState) (bytes : Bytes) : Type 0 where
  pub front : Bytes
  pub is_front : IsPrefix front bytes
  pub wrote : Grows old.written front new.written
  pub faults : old.faults ≤ new.faults
  pub rose : Rose old.faults new.faults

pub record PutsWhole (old new : SinkState) (bytes : Bytes) : Type 0 where
  pub wrote : Grows old.written bytes new.written
  pub faults : old.faults ≤ new.faults

abbrev pub PutsAll : SinkState → SinkState → Bytes → Result (Unit {0}) Status → Type 0
PutsAll old new bytes (Ok u) = PutsWhole old new bytes
PutsAll old new bytes (Err e) = (e ≡ status.WriteFault) × PutsFront old new bytes

-- how a run ends at a stage, where it does
abbrev pub status_at : Stage → Option Status
status_at (Waiting n) = None
status_at (Going n w) = None
status_at Over = Some status.Done
status_at (Stopped n why) = Some status.Refused
status_at (Inspecting n) = None

-- a part that ends the run, and reads nothing
pub record Wrote (p : Played) (how : Reading) (old new : SinkState) (answer : Status) : Type 0 where
  pub output : Bytes
  pub wrote : Grows old.written output new.written
  pub faults : old.faults ≤ new.faults
  pub answers : Answers p how output answer
  pub no_read_fault : answer ≡ status.ReadFault → ⊥
  pub cause : answer ≡ status.WriteFault → Rose old.faults new.faults

-- a part after which the run goes on
pub record GoesOn (p : Played) (old new : SinkState) : Type 0 where
  pub going : IsGoing p.stage
  pub wrote : Grows old.written p.text new.written
  pub faults : old.faults ≤ new.faults

abbrev pub Continues : Played → SinkState → SinkState → Option Status → Type 0
Continues p old new None = GoesOn p old new
Continues p old new (Some answer) = Wrote p Short old new answer

-- a piece was run after which the run goes on
pub record TakesOn (old : Meaning) (piece : Bytes) (new : Meaning) (before after : SinkState) : Type 0 where
  pub text : Bytes
  pub meaning : (how : Reading) (rest : Bytes) → old how (piece ++ rest) ≡ behind text (new how rest)
  pub stands : IsUnread new
  pub wrote : Grows before.written text after.written
  pub faults : before.faults ≤ after.faults

abbrev pub PlaysPiece : Meaning → Bytes → Meaning → SinkState → SinkState → Option Status → Type 0
PlaysPiece old piece new before after None = TakesOn old piece new before after
PlaysPiece old piece new before after (Some answer) = Wrote (old Short piece) Short before after answer

-- what a run took and wrote up to the end of a piece, where it goes on
pub record SoFar (whole : Meaning) (source now : SourceState) (sink after : SinkState) (rest : Meaning) (number left : ℕ) : Type 0 where
  pub text : Bytes
  pub output : Bytes
  pub took : Grows source.taken text now.taken
  pub told : Shrinks source.left text now.left
  pub wrote : Grows sink.written output after.written
  pub meaning : (how : Reading) (more : Bytes) → whole how (text ++ more) ≡ behind output (rest how more)
  pub stands : IsUnread rest
  pub room : length text + left ≡ most_bytes
  pub counted : number ≤ length text + 1
  pub source_faults : source.faults ≤ now.faults
  pub sink_faults : sink.faults ≤ after.faults
  pub ends : now.ends ≡ source.ends

-- how the program is called was written
pub record WroteUsage (old new : SinkState) (answer : Status) : Type 0 where
  pub output : Bytes
  pub wrote : Grows old.written output new.written
  pub faults : old.faults ≤ new.faults
  pub answers : AnswersUsage output answer
  pub cause : answer ≡ status.WriteFault → Rose old.faults new.faults
