-- A run, piece by piece.
use Rattle.std.proofs.Common.{◌≡◌, ℕ, ◌+◌, ◌≤◌, ◌^◌, [], ◌++◌, length, take, Option, Some, None, refl, sym, ap, ◌∙◌, append_assoc, append-nil, arith}
use Rattle.std.proofs.lemmas.List.{length-append, length-take-le}
use Rattle.vtep_base.specs.Reading.{Bytes}
use Rattle.vtep_base.specs.Outside.{SourceState, SinkState, Grows, Shrinks, Rose, counted, TakesPiece, TakesEnd, TakesFault}
use Rattle.vtep_base.specs.declared.answers.Status.{Status}
use Rattle.vtep_base.specs.declared.answers.Status.TheVariants as status
use Rattle.vtep_base.proofs.Told.{grows-none, grows-more, grows-same, shrinks-none, shrinks-more}
use Rattle.fabric_world.specs.Script.{Stage, Played, behind, Reading, Short, Ended, Full, Meaning, IsPrefix, IsGoing, IsReading, Answers, InStep, Replays, Ran, shown, refusal_text}
use Rattle.fabric_world.proofs.TextLaws.{behind-behind}
use Rattle.fabric_replay.specs.Outcomes.{Wrote, TakesOn, Continues, PlaysPiece, SoFar}
use Rattle.fabric_replay.specs.Stages.{IsUnread, FeedsAs}

-- ---- what stands behind what was written before

prefix_behind : (o w whole : Bytes) → IsPrefix w whole → IsPrefix (o ++ w) (o ++ whole)
prefix_behind o w whole p = record { rest = p.rest; joined = ap (λ t. o ++ t) p.joined ∙ sym (append_assoc o w p.rest) }

shown_behind : (o w : Bytes) (p : Played) → IsPrefix w (shown p) → IsPrefix (o ++ w) (shown (behind o p))
shown_behind o w p h = rw (append_assoc o p.text (refusal_text p.stage)) (prefix_behind o w (shown p) h)

answers_behind : (o w : Bytes) (p : Played) (how : Reading) (a : Status) → Answers p how w a → Answers (behind o p) how (o ++ w) a
answers_behind o w p how status.Done h = (h.0, ap (λ t. o ++ t) h.1)
answers_behind o w p how status.Refused h = (h.0, ap (λ t. o ++ t) h.1 ∙ sym (append_assoc o p.text (refusal_text p.stage)))
answers_behind o w p Short status.ReadFault h = (h.0, ap (λ t. o ++ t) h.1)
answers_behind o w p Ended status.ReadFault h = absurd h
answers_behind o w p Full status.ReadFault h = absurd h
answers_behind o w p how status.WriteFault h = shown_behind o w p h
answers_behind o w p how status.NoMemory h = shown_behind o w p h
answers_behind o w p how _ h = absurd h

-- ---- a piece

plain_short : (old new : Meaning) (piece : Bytes) (text : Bytes) → ((how : Reading) (rest : Bytes) → old how (piece ++ rest) ≡ behind text (new how rest)) → (new Short []).text ≡ []
    → old Short piece ≡ record { text = text; stage = (new Short []).stage }
plain_short old new piece text meaning silent =
    ap (old Short) (sym (append-nil piece)) ∙ meaning Short [] ∙ ap (λ t. record { text = text ++ t; stage = (new Short []).stage }) silent
    ∙ ap (λ t. record { text = t; stage = (new Short []).stage }) (append-nil text)

pub plays_piece : (old new : Meaning) (piece before out : Bytes) (stage : Stage) (sink after : SinkState) (r : Option Status) → before ≡ [] → FeedsAs old piece before new out → stage ≡ (new Short []).stage
    → Continues (record { text = out; stage = stage }) sink after r → PlaysPiece old piece new sink after r
plays_piece old new piece before out stage sink after r none f s c = by r (f.wrote ∙ ap (λ t. t ++ f.text) none) c
  where
    by : (r : Option Status) → out ≡ f.text → Continues (record { text = out; stage = stage }) sink after r → PlaysPiece old piece new sink after r
    by None e c = record {
      text = f.text;
      meaning = f.meaning;
      stands = record { going = rw (sym s) c.going; silent = f.silent };
      wrote = rw (sym e) c.wrote;
      faults = c.faults;
    }
    by (Some a) e c = rw (plain_short old new piece f.text f.meaning f.silent) (rw (sym e) (rw (sym s) c))

-- ---- the loop

module _ (whole : Meaning) where
  pub starts : (source : SourceState) (sink : SinkState) (number : ℕ) → IsUnread whole → number ≤ 1 → SoFar whole source source sink sink whole number (2 ^ 28)
  starts source sink number unread n = record {
    text = [];
    output = [];
    took = grows-none source.taken;
    told = shrinks-none source.left;
    wrote = grows-none sink.written;
    meaning = λ how more. refl;
    stands = unread;
    room = refl;
    counted = omega (arith, n);
    source_faults = omega arith;
    sink_faults = omega arith;
    ends = refl;
  }

  pub goes_on : (source now next : SourceState) (sink after more : SinkState) (rest rest2 : Meaning) (buffer : Bytes) (number number2 left left2 room count : ℕ)
      → SoFar whole source now sink after rest number left → TakesPiece now next room buffer count → count ≤ length buffer
      → TakesOn rest (take count buffer) rest2 after more
      → number2 ≤ number + count → left2 + count ≡ left
      → SoFar whole source next sink more rest2 number2 left2
  goes_on source now next sink after more rest rest2 buffer number number2 left left2 room count h t fits g n l =
      let piece : Bytes = take count buffer in
      let long : length piece ≡ count = length-take-le count buffer fits in
      record {
        text = h.text ++ piece;
        output = h.output ++ g.text;
        took = grows-more source.taken now.taken next.taken h.text piece h.took t.taken;
        told = shrinks-more source.left now.left next.left h.text piece h.told t.left;
        wrote = grows-more sink.written after.written more.written h.output g.text h.wrote g.wrote;
        meaning = λ how later. ap (whole how) (append_assoc h.text piece later) ∙ h.meaning how (piece ++ later) ∙ ap (behind h.output) (g.meaning how later) ∙ behind-behind h.output g.text (rest2 how later);
        stands = g.stands;
        room = omega (arith, length-append h.text piece, long, h.room, l);
        counted = omega (arith, length-append h.text piece, long, h.counted, n);
        source_faults = omega (arith, h.source_faults, t.faults);
        sink_faults = omega (arith, h.sink_faults, g.faults);
        ends = t.ends ∙ h.ends;
      }

  -- ---- its ends

  -- what was taken so far, where there may be more
  so_far : (text output : Bytes) (rest : Meaning) → ((how : Reading) (more : Bytes) → whole how (text ++ more) ≡ behind output (rest how more)) → IsUnread rest
      → whole Short text ≡ record { text = output; stage = (rest Short []).stage }
  so_far text output rest meaning stands = plain_short whole rest text output meaning stands.silent

  -- the end of the reading behind what was taken so far
  at_end : (text output : Bytes) (rest : Meaning) (how : Reading) → ((how : Reading) (more : Bytes) → whole how (text ++ more) ≡ behind output (rest how more)) → behind output (rest how []) ≡ whole how text
  at_end text output rest how meaning = sym (ap (whole how) (sym (append-nil text)) ∙ meaning how [])

  in_step : (earlier last output more : Bytes) (stage : _) → length last ≤ 2 ^ 12 → whole Short earlier ≡ record { text = output; stage = stage } → IsGoing stage → InStep whole (earlier ++ last) (output ++ more)
  in_step earlier last output more stage few same going = record {
    earlier = earlier;
    last = last;
    taken = refl;
    few = few;
    going = rw same going;
    output = record { rest = more; joined = ap (λ p. p.text ++ more) (sym same) };
  }

  in_step_whole : (text output more : Bytes) (stage : _) → whole Short text ≡ record { text = output; stage = stage } → IsGoing stage → InStep whole text (output ++ more)
  in_step_whole text output more stage same going = record {
    earlier = text;
    last = [];
    taken = sym (append-nil text);
    few = omega arith;
    going = rw same going;
    output = record { rest = more; joined = ap (λ p. p.text ++ more) (sym same) };
  }

  rose_later : (a b c : ℕ) → a ≤ b → Rose b c → Rose a c
  rose_later a b c le r = omega (arith, le, r)

  ran : (source next : SourceState) (sink after last : SinkState) (text o : Bytes) (how : Reading) (p : Played) (a : Status)
      → Grows source.taken text next.taken → Shrinks source.left text next.left → length text ≤ 2 ^ 28
      → source.faults ≤ next.faults → sink.faults ≤ after.faults
      → Grows sink.written o after.written → behind o p ≡ whole how text → IsReading source next text how
      → ((more : Bytes) → InStep whole text (o ++ more))
      → Wrote p how after last a
      → Ran (Replays whole) source next sink last a
  ran source next sink after last text o how p a took told most faults sink_faults wrote same read steps w = record {
    text = text;
    written = o ++ w.output;
    took = took;
    left = told;
    wrote = grows-more sink.written after.written last.written o w.output wrote w.wrote;
    answers = record {
      how = how;
      read = read;
      answers = rw (sym same) (answers_behind o w.output p how a w.answers);
      in_step = steps w.output;
      most = most;
    };
    read_fault = λ e. absurd (w.no_read_fault e);
    write_fault = λ e. rose_later sink.faults after.faults last.faults sink_faults (w.cause e);
    source_faults = faults;
    sink_faults = omega (arith, sink_faults, w.faults);
  }

  read_is_no_write : status.ReadFault ≡ status.WriteFault → ⊥
  read_is_no_write e = grind arith

  memory_is_no_read : status.NoMemory ≡ status.ReadFault → ⊥
  memory_is_no_read e = grind arith

  memory_is_no_write : status.NoMemory ≡ status.WriteFault → ⊥
  memory_is_no_write e = grind arith

  shrinks_same : (a b c : Option Bytes) (x : Bytes) → Shrinks a x b → c ≡ b → Shrinks a x c
  shrinks_same a b c x h e = rw e h

  pub ends_short : (source now next : SourceState) (sink after last : SinkState) (rest : Meaning) (buffer : Bytes) (number left room count : ℕ) (a : Status)
      → SoFar whole source now sink after rest number left → TakesPiece now next room buffer count → count ≤ length buffer → count ≤ left → count ≤ 2 ^ 12
      → Wrote (rest Short (take count buffer)) Short after last a
      → Ran (Replays whole) source next sink last a
  ends_short source now next sink after last rest buffer number left room count a h t fits l few w =
      let piece : Bytes = take count buffer in
      let long : length piece ≡ count = length-take-le count buffer fits in
      ran source next sink after last (h.text ++ piece) h.output Short (rest Short piece) a
      (grows-more source.taken now.taken next.taken h.text piece h.took t.taken)
      (shrinks-more source.left now.left next.left h.text piece h.told t.left)
      (omega (arith, length-append h.text piece, long, h.room, l))
      (omega (arith, h.source_faults, t.faults)) h.sink_faults h.wrote (sym (h.meaning Short piece)) (t.ends ∙ h.ends)
      (λ more. in_step h.text piece h.output more (rest Short []).stage (omega (arith, long, few)) (so_far h.text h.output rest h.meaning h.stands) h.stands.going)
      w

  pub ends_ended : (source now next : SourceState) (sink after last : SinkState) (rest : Meaning) (number left : ℕ) (a : Status)
      → SoFar whole source now sink after rest number left → TakesEnd now next
      → Wrote (rest Ended []) Ended after last a
      → Ran (Replays whole) source next sink last a
  ends_ended source now next sink after last rest number left a h t w =
      ran source next sink after last h.text h.output Ended (rest Ended []) a
      (grows-same source.taken now.taken next.taken h.text h.took t.taken)
      (shrinks_same source.left now.left next.left h.text h.told t.left)
      (omega (arith, h.room))
      (omega (arith, h.source_faults, t.faults)) h.sink_faults h.wrote (at_end h.text h.output rest Ended h.meaning)
      (record { ended = t.ends ∙ ap counted h.ends; spent = rw t.left t.spent })
      (λ more. in_step_whole h.text h.output more (rest Short []).stage (so_far h.text h.output rest h.meaning h.stands) h.stands.going)
      w

  pub ends_full : (source now : SourceState) (sink after last : SinkState) (rest : Meaning) (number left : ℕ) (a : Status)
      → SoFar whole source now sink after rest number left → left ≡ 0
      → Wrote (rest Full []) Full after last a
      → Ran (Replays whole) source now sink last a
  ends_full source now sink after last rest number left a h l w =
      ran source now sink after last h.text h.output Full (rest Full []) a
      h.took h.told (omega (arith, h.room)) h.source_faults h.sink_faults h.wrote (at_end h.text h.output rest Full h.meaning)
      (omega (arith, h.room, l), h.ends)
      (λ more. in_step_whole h.text h.output more (rest Short []).stage (so_far h.text h.output rest h.meaning h.stands) h.stands.going)
      w

  pub ends_failed : (source now next : SourceState) (sink after : SinkState) (rest : Meaning) (number left : ℕ)
      → SoFar whole source now sink after rest number left → TakesFault now next
      → Ran (Replays whole) source next sink after status.ReadFault
  ends_failed source now next sink after rest number left h t =
      let same = so_far h.text h.output rest h.meaning h.stands in
      record {
        text = h.text;
        written = h.output;
        took = grows-same source.taken now.taken next.taken h.text h.took t.taken;
        left = shrinks_same source.left now.left next.left h.text h.told t.left;
        wrote = h.wrote;
        answers = record {
          how = Short;
          read = t.ends ∙ h.ends;
          answers = rw same (h.stands.going, refl);
          in_step = rw (sym (append-nil h.output)) (in_step_whole h.text h.output [] (rest Short []).stage same h.stands.going);
          most = omega (arith, h.room);
        };
        read_fault = λ e. rose_later source.faults now.faults next.faults h.source_faults t.rose;
        write_fault = λ e. absurd (read_is_no_write e);
        source_faults = omega (arith, h.source_faults, t.faults);
        sink_faults = h.sink_faults;
      }

  pub ends_unread : (source : SourceState) (sink : SinkState) → IsUnread whole → Ran (Replays whole) source source sink sink status.NoMemory
  ends_unread source sink unread = record {
    text = [];
    written = [];
    took = grows-none source.taken;
    left = shrinks-none source.left;
    wrote = grows-none sink.written;
    answers = record {
      how = Short;
      read = refl;
      answers = record { rest = shown (whole Short []); joined = refl };
      in_step = record { earlier = []; last = []; taken = refl; few = omega arith; going = unread.going; output = record { rest = []; joined = sym (ap (λ t. t ++ []) unread.silent) } };
      most = omega arith;
    };
    read_fault = λ e. absurd (memory_is_no_read e);
    write_fault = λ e. absurd (memory_is_no_write e);
    source_faults = omega arith;
    sink_faults = omega arith;
  }
