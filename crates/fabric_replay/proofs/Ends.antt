-- How a run ends.
use Rattle.std.proofs.Common.{◌≡◌, [], ◌++◌, ◌≤◌, Option, Some, None, refl, sym, ap, subst, ◌∙◌, arith}
use Rattle.vtep_base.specs.Reading.{Bytes}
use Rattle.vtep_base.specs.Outside.{SourceState, SinkState}
use Rattle.vtep_base.specs.declared.answers.Status.{Status}
use Rattle.vtep_base.specs.declared.answers.Status.TheVariants as status
use Rattle.vtep_base.proofs.Told.{grows-none, shrinks-none}
use Rattle.fabric_world.specs.declared.Form.{Form}
use Rattle.fabric_world.specs.declared.Form.TheVariants.{Replay, Inspect}
use Rattle.fabric_replay.specs.Stages.{IsUnread, number_of}
use Rattle.fabric_world.specs.Script.{Stage, Waiting, Going, Over, Stopped, Inspecting, Played, ended, full, Reading, Short, IsGoing, Answers, AnswersUsage, AnswersForm, Replays, Ran, first_of, read_behind}
use Rattle.fabric_replay.specs.Outcomes.{Wrote, WroteUsage}

-- ---- the end of a script

pub same_end : (p : Played) (mid new : Stage) → mid ≡ p.stage → ended (record { text = p.text; stage = mid }) ≡ record { text = p.text; stage = new } → (ended p).stage ≡ new
same_end p mid new e h = ap (λ s. (ended (record { text = p.text; stage = s })).stage) (sym e) ∙ ap (λ q. q.stage) h

pub ended_ends : (p : Played) → IsGoing (ended p).stage → ⊥
ended_ends p = by p.stage
  where
    by : (s : Stage) → IsGoing (ended (record { text = p.text; stage = s })).stage → ⊥
    by (Waiting n) k = k
    by (Going n w) k = k
    by Over k = k
    by (Stopped n why) k = k
    by (Inspecting n) k = k

pub full_ends : (s : Stage) → IsGoing (full s).stage → ⊥
full_ends (Waiting n) k = k
full_ends (Going n w) k = k
full_ends Over k = k
full_ends (Stopped n why) k = k
full_ends (Inspecting n) k = k

-- a script that has ended has its answer however the reading ended
pub ended_answers : (p : Played) (how : Reading) (o : Bytes) (st : Status) → (IsGoing p.stage → ⊥) → Answers p Short o st → Answers p how o st
ended_answers p how o status.Done n h = h
ended_answers p how o status.Refused n h = h
ended_answers p how o status.ReadFault n h = absurd (n h.0)
ended_answers p how o status.WriteFault n h = h
ended_answers p how o status.NoMemory n h = h
ended_answers p how o _ n h = absurd h

same_answers : (p q : Played) (o : Bytes) (st : Status) → q ≡ p → Answers q Short o st → Answers p Short o st
same_answers p q o st e h = rw (sym e) h

pub ended_wrote : (p q : Played) (how : Reading) (old new : SinkState) (st : Status) → q ≡ p → (IsGoing p.stage → ⊥) → Wrote q Short old new st → Wrote p how old new st
ended_wrote p q how old new st e n w = record {
  output = w.output;
  wrote = w.wrote;
  faults = w.faults;
  answers = ended_answers p how w.output st n (same_answers p q w.output st e w.answers);
  no_read_fault = w.no_read_fault;
  cause = w.cause;
}

pub same_played : (p : Played) (t front : Bytes) (s : Stage) → t ≡ front ++ p.text → front ≡ [] → s ≡ p.stage → record { text = t; stage = s } ≡ p
same_played p t front s e none f =
    ap (λ x. record { text = x; stage = s }) (e ∙ ap (λ x. x ++ p.text) none) ∙ ap (λ x. record { text = p.text; stage = x }) f

-- words of no form
pub ends_usage : (f : Option Form) (source : SourceState) (sink last : SinkState) (a : Status) → f ≡ None → WroteUsage sink last a → Ran (AnswersForm f) source source sink last a
ends_usage f source sink last a e w = rw e ran
  where
    no_read : (o : Bytes) (a : Status) → AnswersUsage o a → a ≡ status.ReadFault → ⊥
    no_read o status.ReadFault h e = h
    no_read o status.Usage h e = absurd (grind arith)
    no_read o status.WriteFault h e = absurd (grind arith)
    no_read o _ h e = absurd h

    ran : Ran (AnswersForm None) source source sink last a
    ran = record {
      text = [];
      written = w.output;
      took = grows-none source.taken;
      left = shrinks-none source.left;
      wrote = w.wrote;
      answers = (refl, refl, w.answers);
      read_fault = λ r. absurd (no_read w.output a w.answers r);
      write_fault = w.cause;
      source_faults = omega arith;
      sink_faults = w.faults;
    }

-- ---- the beginning of a text of a form

going_first : (form : Form) → IsGoing (first_of form)
going_first Replay = tt
going_first Inspect = tt

pub first_unread : (form : Form) (stage : Stage) (front : Bytes) → stage ≡ first_of form → IsUnread (read_behind front stage)
first_unread form stage front e = rw e (record { going = going_first form; silent = refl })

pub first_number : (form : Form) (stage : Stage) → stage ≡ first_of form → number_of stage ≤ 1
first_number Replay stage e = rw e (omega arith)
first_number Inspect stage e = rw e (omega arith)

pub ran_form : (form : Form) (stage : Stage) (front : Bytes) (source next : SourceState) (sink last : SinkState) (a : Status) → stage ≡ first_of form → front ≡ []
    → Ran (Replays (read_behind front stage)) source next sink last a → Ran (AnswersForm (Some form)) source next sink last a
ran_form form stage front source next sink last a e f r =
    let q : Ran (Replays (read_behind [] (first_of form))) source next sink last a = subst (λ s. Ran (Replays (read_behind [] s)) source next sink last a) e (subst (λ t. Ran (Replays (read_behind t stage)) source next sink last a) f r) in
    record {
      text = q.text;
      written = q.written;
      took = q.took;
      left = q.left;
      wrote = q.wrote;
      answers = q.answers;
      read_fault = q.read_fault;
      write_fault = q.write_fault;
      source_faults = q.source_faults;
      sink_faults = q.sink_faults;
    }
