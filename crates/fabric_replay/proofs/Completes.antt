-- A script that is not refused is run whole.
use Rattle.std.proofs.Common.{◌≡◌, ◌⊎◌, inl, inr, ◌<◌, ◌^◌, List, [], ◌∷◌, ◌++◌, length, take, Option, Some, None, refl, sym, ap, ◌∙◌, append-nil, arith}
use Rattle.std.proofs.lemmas.List.{length-append, take_at}
use Rattle.vtep_base.specs.Reading.{Bytes}
use Rattle.vtep_base.specs.Outside.{SourceState, SinkState, Grows, Shrinks, IsSpent}
use Rattle.vtep_base.specs.declared.answers.Status.{Status}
use Rattle.vtep_base.specs.declared.answers.Status.TheVariants as status
use Rattle.fabric_world.specs.Text.{cut}
use Rattle.fabric_world.specs.declared.Form.{Form}
use Rattle.fabric_world.specs.Script.{Stage, Waiting, Going, Over, Stopped, Inspecting, first_of, Played, behind, play, played, closing, Reading, Short, Ended, Full, IsOver, IsStopped, IsReading, Answers, AnswersForm, Ran, IsAccepted, Completes, read_as, shown, refusal_text}
use Rattle.fabric_world.proofs.TextLaws.{play-over, play-stopped, played-append}

-- ---- a front of a script that is over, or was refused

later_by : (old : Stage) (text : Bytes) (ls : List Bytes) (rest : Bytes) → IsOver old ⊎ IsStopped old
    → behind text (closing Ended (play old ls).stage rest) ≡ record { text = text; stage = old }
later_by (Waiting n) text ls rest (inl h) = absurd h
later_by (Waiting n) text ls rest (inr h) = absurd h
later_by (Going n w) text ls rest (inl h) = absurd h
later_by (Going n w) text ls rest (inr h) = absurd h
later_by (Inspecting n) text ls rest (inl h) = absurd h
later_by (Inspecting n) text ls rest (inr h) = absurd h
later_by Over text ls rest h = rw (ap (λ (p : Played). p.stage) (play-over ls)) (by rest)
  where
    by : (rest : Bytes) → behind text (closing Ended Over rest) ≡ record { text = text; stage = Over }
    by [] = ap (λ t. record { text = t; stage = Over }) (append-nil text)
    by (b ∷ bs) = ap (λ t. record { text = t; stage = Over }) (append-nil text)
later_by (Stopped n why) text ls rest h = rw (ap (λ (p : Played). p.stage) (play-stopped n why ls)) (by rest)
  where
    by : (rest : Bytes) → behind text (closing Ended (Stopped n why) rest) ≡ record { text = text; stage = Stopped n why }
    by [] = ap (λ t. record { text = t; stage = Stopped n why }) (append-nil text)
    by (b ∷ bs) = ap (λ t. record { text = t; stage = Stopped n why }) (append-nil text)

silent_by : (old : Stage) (ls : List Bytes) → IsOver old ⊎ IsStopped old → (play old ls).text ≡ []
silent_by (Waiting n) ls (inl h) = absurd h
silent_by (Waiting n) ls (inr h) = absurd h
silent_by (Going n w) ls (inl h) = absurd h
silent_by (Going n w) ls (inr h) = absurd h
silent_by (Inspecting n) ls (inl h) = absurd h
silent_by (Inspecting n) ls (inr h) = absurd h
silent_by Over ls h = ap (λ (p : Played). p.text) (play-over ls)
silent_by (Stopped n why) ls h = ap (λ (p : Played). p.text) (play-stopped n why ls)

-- what is behind it changes nothing
whole : (first : Stage) (text rest : Bytes) → IsOver (played first text).stage ⊎ IsStopped (played first text).stage
    → read_as first Ended (text ++ rest) ≡ played first text
whole first text rest h =
    let more : List Bytes = (cut (cut [] text).1 rest).0 in
    let all : played first (text ++ rest) ≡ behind (played first text).text (play (played first text).stage more) = played-append first text rest in
    rw all (rw (silent_by (played first text).stage more h) (ap (λ t. behind t (closing Ended (play (played first text).stage more).stage (cut [] (text ++ rest)).1)) (append-nil (played first text).text) ∙ later_by (played first text).stage (played first text).text more (cut [] (text ++ rest)).1 h))

-- ---- by the answer

is_over : (p q : Played) → p ≡ q → IsOver q.stage → IsOver p.stage
is_over p q e h = rw e h

both : (s : Stage) → IsOver s → IsStopped s → ⊥
both (Waiting n) o r = absurd o
both (Going n w) o r = absurd o
both (Inspecting n) o r = absurd o
both Over o r = absurd r
both (Stopped n why) o r = absurd o

over_output : (p : Played) → IsOver p.stage → shown p ≡ p.text
over_output p o = by p.stage o
  where
    by : (s : Stage) → IsOver s → p.text ++ refusal_text s ≡ p.text
    by (Waiting n) h = absurd h
    by (Going n w) h = absurd h
    by (Inspecting n) h = absurd h
    by Over h = append-nil p.text
    by (Stopped n why) h = absurd h

-- the stage of a full reading is over where the stage before is, and only there
full_over : (s : Stage) (rest : Bytes) → IsOver (closing Full s rest).stage → IsOver s
full_over (Waiting n) rest h = h
full_over (Going n w) rest h = h
full_over (Inspecting n) rest h = h
full_over Over rest h = h
full_over (Stopped n why) rest h = h

full_stopped : (s : Stage) (rest : Bytes) → IsOver s → IsStopped (closing Full s rest).stage → ⊥
full_stopped (Waiting n) rest o h = absurd o
full_stopped (Going n w) rest o h = absurd o
full_stopped (Inspecting n) rest o h = absurd o
full_stopped Over rest o h = h
full_stopped (Stopped n why) rest o h = absurd o

full_text : (s : Stage) (rest : Bytes) → IsOver s → (closing Full s rest).text ≡ []
full_text (Waiting n) rest o = absurd o
full_text (Going n w) rest o = absurd o
full_text (Inspecting n) rest o = absurd o
full_text Over rest o = refl
full_text (Stopped n why) rest o = absurd o

-- a front that is over is the output
front_output : (first : Stage) (text rest : Bytes) → IsOver (played first text).stage → shown (read_as first Ended (text ++ rest)) ≡ (played first text).text
front_output first text rest o = ap shown (whole first text rest (inl o)) ∙ over_output (played first text) o

done : (first : Stage) (text rest : Bytes) (how : Reading) (written : Bytes) → (how ≡ Ended → rest ≡ []) → IsOver (read_as first how text).stage → written ≡ (read_as first how text).text → written ≡ shown (read_as first Ended (text ++ rest))
done first text rest Short written ended o e = e ∙ append-nil (played first text).text ∙ sym (front_output first text rest o)
done first text rest Ended written ended o e = rw (ended refl) (rw (append-nil text) (e ∙ sym (over_output (read_as first Ended text) o)))
done first text rest Full written ended o e =
    let over : IsOver (played first text).stage = full_over (played first text).stage (cut [] text).1 o in
    e ∙ ap (λ t. (played first text).text ++ t) (full_text (played first text).stage (cut [] text).1 over) ∙ append-nil (played first text).text ∙ sym (front_output first text rest over)

front_over : (first : Stage) (text rest : Bytes) → length text ≡ 2 ^ 28 → (length (text ++ rest) < 2 ^ 28) ⊎ IsOver (played first (take (2 ^ 28) (text ++ rest))).stage → IsOver (played first text).stage
front_over first text rest l (inl short) = absurd (omega (arith, l, short, length-append text rest))
front_over first text rest l (inr over) = rw (ap (λ t. played first t) (sym (take_at text rest (2 ^ 28) l))) over

not_refused : (first : Stage) (text rest : Bytes) (how : Reading) → (how ≡ Ended → rest ≡ []) → (how ≡ Full → length text ≡ 2 ^ 28) → IsAccepted first (text ++ rest) → IsStopped (read_as first how text).stage → ⊥
not_refused first text rest Short ended full accepted h = both (played first text).stage (is_over (played first text) (read_as first Ended (text ++ rest)) (sym (whole first text rest (inr h))) accepted.over) h
not_refused first text rest Ended ended full accepted h = both (read_as first Ended text).stage (is_over (read_as first Ended text) (read_as first Ended (text ++ rest)) (ap (read_as first Ended) (sym (append-nil text)) ∙ ap (λ r. read_as first Ended (text ++ r)) (sym (ended refl))) accepted.over) h
not_refused first text rest Full ended full accepted h = full_stopped (played first text).stage (cut [] text).1 (front_over first text rest (full refl) accepted.reached) h

-- the bytes that are left behind a front
told_rest : (a b : Option Bytes) (script text : Bytes) → a ≡ Some script → Shrinks a text b → (rest : Bytes) × (b ≡ Some rest) × (script ≡ text ++ rest)
told_rest None b script text e h = absurd (grind arith)
told_rest (Some x) None script text e h = absurd h
told_rest (Some x) (Some rest) script text e h = (rest, refl, grind arith)

none_left : (o : Option Bytes) (rest : Bytes) → o ≡ Some rest → IsSpent o → rest ≡ []
none_left None rest e h = absurd (grind arith)
none_left (Some x) rest e h = grind arith

same_rest : (source after : SourceState) (text rest : Bytes) (how : Reading) → IsReading source after text how → after.left ≡ Some rest → how ≡ Ended → rest ≡ []
same_rest source after text rest Short read e h = absurd (grind arith)
same_rest source after text rest Ended read e h = none_left after.left rest e read.spent
same_rest source after text rest Full read e h = absurd (grind arith)

same_length : (source after : SourceState) (text : Bytes) (how : Reading) → IsReading source after text how → how ≡ Full → length text ≡ 2 ^ 28
same_length source after text Short read h = absurd (grind arith)
same_length source after text Ended read h = absurd (grind arith)
same_length source after text Full read h = read.0

by_answer : (first : Stage) (a : Status) (text written rest : Bytes) (how : Reading) (before after : Option Bytes) → (how ≡ Ended → rest ≡ []) → (how ≡ Full → length text ≡ 2 ^ 28)
    → Answers (read_as first how text) how written a → (a ≡ status.ReadFault → ⊥) → (a ≡ status.WriteFault → ⊥) → Grows before written after → IsAccepted first (text ++ rest)
    → (a ≡ status.NoMemory) ⊎ ((a ≡ status.Done) × Grows before (shown (read_as first Ended (text ++ rest))) after)
by_answer first status.Done text written rest how before after ended full h no_read no_write grows accepted = inr (refl, rw (sym (done first text rest how written ended h.0 h.1)) grows)
by_answer first status.Refused text written rest how before after ended full h no_read no_write grows accepted = absurd (not_refused first text rest how ended full accepted h.0)
by_answer first status.ReadFault text written rest how before after ended full h no_read no_write grows accepted = absurd (no_read refl)
by_answer first status.WriteFault text written rest how before after ended full h no_read no_write grows accepted = absurd (no_write refl)
by_answer first status.NoMemory text written rest how before after ended full h no_read no_write grows accepted = inl refl
by_answer first _ text written rest how before after ended full h no_read no_write grows accepted = absurd h

pub completes : (what : Form) (source after : SourceState) (sink last : SinkState) (a : Status) → Ran (AnswersForm (Some what)) source after sink last a → Completes what source after sink last a
completes what source after sink last a r script e accepted no_source no_sink =
    let told = told_rest source.left after.left script r.text e r.left in
    rw told.2 (by_answer (first_of what) a r.text r.written told.0 r.answers.how sink.written last.written
    (same_rest source after r.text told.0 r.answers.how r.answers.read told.1)
    (same_length source after r.text r.answers.how r.answers.read)
    r.answers.answers (λ h. no_source (r.read_fault h)) (λ h. no_sink (r.write_fault h)) r.wrote (rw (sym told.2) accepted))

same_form : (asked : Option Form) (what form : Form) → asked ≡ Some what → asked ≡ Some form → form ≡ what
same_form asked what form e h = grind arith

pub completes_asked : (asked : Option Form) (what form : Form) (source after : SourceState) (sink last : SinkState) (a : Status) → asked ≡ Some what
    → Ran (AnswersForm (Some what)) source after sink last a → asked ≡ Some form → Completes form source after sink last a
completes_asked asked what form source after sink last a e r h = rw (same_form asked what form e h) (completes what source after sink last a r)
