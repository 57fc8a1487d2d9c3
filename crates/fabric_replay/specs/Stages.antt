-- How definitions see where a script stands.
use Rattle.std.specs.Prelude.{◌≡◌, ℕ, Option, Some, None, ◌+◌, ◌<◌, [], ◌∷◌, ◌++◌, length, take, drop}
use Rattle.vtep_base.specs.Reading.{Bytes}
use Rattle.fabric_world.specs.Script.{Stage, Waiting, Going, Over, Stopped, Inspecting, play_one, play, behind, Played, Reading, Short, Meaning, IsGoing}
use Rattle.fabric_world.specs.Text.{cut, NoFeed}
use Rattle.fabric_replay.specs.declared.script.Stage as code
use Rattle.fabric_replay.specs.declared.script.Stage.TheVariants as script
use Rattle.fabric_replay.specs.declared.script.Halt.{Halt}
use Rattle.fabric_replay.specs.declared.script.Halt.TheVariants as halt

abbrev pub stage_of : code.Stage → Stage
stage_of (script.Waiting n) = Waiting n
stage_of (script.Going n fabric) = Going n fabric.world
stage_of script.Over = Over
stage_of (script.Stopped n why) = Stopped n why
stage_of (script.Inspecting n) = Inspecting n

-- the number of the next line, or of the one that was refused
abbrev pub number_of : Stage → ℕ
number_of (Waiting n) = n
number_of (Going n w) = n
number_of Over = 0
number_of (Stopped n why) = n
number_of (Inspecting n) = n

-- where a script stands behind a line: there, unless the line ends it
abbrev pub after_line : Option Halt → ℕ → Stage → Stage
after_line None n stage = stage
after_line (Some halt.Over) n stage = Over
after_line (Some (halt.Refused why)) n stage = Stopped n why

-- something was played, and what it writes stands behind what was written before
pub record Performs (p : Played) (before : Bytes) (new : Stage) (after : Bytes) : Type 0 where
  pub text : after ≡ before ++ p.text
  pub stage : new ≡ p.stage

-- so was a line
abbrev pub Plays : Stage → Bytes → Bytes → Stage → Bytes → Type 0
Plays old line before new after = Performs (play_one old line) before new after

-- the first line feed stands at this place
pub record EndsLine (text : Bytes) (at : ℕ) : Type 0 where
  pub within : at < length text
  pub parts : text ≡ take at text ++ 10 ∷ drop (at + 1) text
  pub first : NoFeed (take at text)

-- the lines that a piece made whole were played, and what stands behind the last line feed is kept
pub record Feeds (old : Stage) (old_front piece before : Bytes) (new : Stage) (new_front after : Bytes) : Type 0 where
  pub text : after ≡ before ++ (play old (cut old_front piece).0).text
  pub stage : new ≡ (play old (cut old_front piece).0).stage
  pub front : new_front ≡ (cut old_front piece).1

-- a piece was taken: what it wrote, and what comes of the rest then
pub record FeedsAs (old : Meaning) (piece before : Bytes) (new : Meaning) (after : Bytes) : Type 0 where
  pub text : Bytes
  pub wrote : after ≡ before ++ text
  pub silent : (new Short []).text ≡ []
  pub meaning : (how : Reading) (rest : Bytes) → old how (piece ++ rest) ≡ behind text (new how rest)

-- the reading ended, and nothing goes on
pub record ClosesAs (p : Played) (before : Bytes) (stage : Stage) (after : Bytes) : Type 0 where
  pub text : after ≡ before ++ p.text
  pub stage_so : stage ≡ p.stage
  pub over : IsGoing p.stage → ⊥

-- what comes of no text at all is nothing, and it goes on
pub record IsUnread (meaning : Meaning) : Type 0 where
  pub going : IsGoing (meaning Short []).stage
  pub silent : (meaning Short []).text ≡ []
