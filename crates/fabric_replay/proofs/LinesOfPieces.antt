-- The lines that a piece makes whole.
use Rattle.std.proofs.Common.{◌≡◌, ℕ, zero, suc, ◌+◌, ◌<◌, Bool, true, false, List, [], ◌∷◌, ◌++◌, length, take, drop, get_or, Option, Some, None, MatchOption, refl, sym, ap, ◌∙◌, arith, append_assoc, append-nil}
use Rattle.std.specs.Prelude.{◌==◌}
use Rattle.std.proofs.lemmas.Bool.Decides.{nat_tests}
use Rattle.std.proofs.lemmas.List.{take-append-drop, at_drop_more, get_or-take, length-take}
use Rattle.vtep_base.specs.Reading.{Bytes}
use Rattle.memchr.specs.Find.{IsFirstByte, is_byte, NoneBefore, Passes}
use Rattle.fabric_world.specs.Text.{without_return, NoFeed, cut}
use Rattle.fabric_world.specs.Script.{Stage, behind, play, play_one, read_behind}
use Rattle.fabric_world.proofs.TextLaws.{cut-line, cut-rest, read-more}
use Rattle.fabric_replay.specs.Stages.{EndsLine, Plays, Feeds, FeedsAs}

-- ---- carriage returns

is_return : (b : ℕ) → b ≡ 13 → (b == 13) ≡ true
is_return b e = grind (arith, nat_tests)

no_return : (b : ℕ) → (b ≡ 13 → ⊥) → (b == 13) ≡ false
no_return b n = grind (arith, nat_tests)

pub drops_return : (line : Bytes) (end : ℕ) → length line ≡ suc end → get_or line end 0 ≡ 13 → without_return line ≡ take end line
drops_return [] end h e = absurd (omega arith)
drops_return (b ∷ []) zero h e = rw (is_return b e) refl
drops_return (b ∷ []) (suc end) h e = absurd (omega arith)
drops_return (b ∷ c ∷ bs) zero h e = absurd (omega arith)
drops_return (b ∷ c ∷ bs) (suc end) h e = ap (λ r. b ∷ r) (drops_return (c ∷ bs) end (omega arith) e)

pub keeps_line : (line : Bytes) (end : ℕ) → length line ≡ suc end → (get_or line end 0 ≡ 13 → ⊥) → without_return line ≡ line
keeps_line [] end h n = refl
keeps_line (b ∷ []) zero h n = rw (no_return b n) refl
keeps_line (b ∷ []) (suc end) h n = absurd (omega arith)
keeps_line (b ∷ c ∷ bs) zero h n = absurd (omega arith)
keeps_line (b ∷ c ∷ bs) (suc end) h n = ap (λ r. b ∷ r) (keeps_line (c ∷ bs) end (omega arith) n)

-- ---- line feeds

not_passed : (t : Bool) → (t ≡ true → ⊥) → t ≡ false
not_passed true n = absurd (n refl)
not_passed false n = refl

no_feed_by : (bs : Bytes) → ((k : ℕ) → k < length bs → Passes (is_byte 10) bs k → ⊥) → NoFeed bs
no_feed_by [] h = tt
no_feed_by (b ∷ bs) h = (not_passed (b == 10) (λ p. h 0 (omega arith) p), no_feed_by bs (λ k less p. h (suc k) (omega arith) p))

same_number : (a b : ℕ) → (a == b) ≡ true → a ≡ b
same_number a b e = grind (arith, nat_tests)

feed_at : (bs : Bytes) (at : ℕ) → NoneBefore (Passes (is_byte 10) bs) 0 (length bs) at → Passes (is_byte 10) bs at → EndsLine bs at
feed_at bs at n p = record {
  within = n.high;
  parts = sym (take-append-drop at bs) ∙ ap (λ r. take at bs ++ r) (at_drop_more (λ r. r) bs at 0 n.high ∙ ap (λ b. b ∷ drop (at + 1) bs) (same_number (get_or bs at 0) 10 p));
  first = no_feed_by (take at bs) (λ k less q. let in_front : k < at = omega (arith, length-take at bs) in n.before k (omega arith) in_front (ap (λ b. b == 10) (sym (get_or-take at bs k 0 in_front)) ∙ q));
}

pub ends_line : (bs : Bytes) (r : Option ℕ) → IsFirstByte (is_byte 10) bs r → MatchOption r (NoFeed bs) (λ at. EndsLine bs at)
ends_line bs None h = no_feed_by bs (λ k less. h k (omega arith) less)
ends_line bs (Some at) h = feed_at bs at h.0 h.1

-- ---- one line of a piece

one_line : (front rest : Bytes) (at : ℕ) → EndsLine rest at
    → cut front rest ≡ (without_return (front ++ take at rest) ∷ (cut [] (drop (at + 1) rest)).0, (cut [] (drop (at + 1) rest)).1)
one_line front rest at e = ap (cut front) e.parts ∙ cut-line (take at rest) (drop (at + 1) rest) front e.first

pub step_text : (old new : Stage) (front rest before after : Bytes) (at : ℕ) → EndsLine rest at → Plays old (without_return (front ++ take at rest)) before new after
    → after ++ (play new (cut [] (drop (at + 1) rest)).0).text ≡ before ++ (play old (cut front rest).0).text
step_text old new front rest before after at e p =
    let line : Bytes = without_return (front ++ take at rest) in
    let more : List Bytes = (cut [] (drop (at + 1) rest)).0 in
    ap (λ t. t ++ (play new more).text) p.text ∙ ap (λ s. before ++ (play_one old line).text ++ (play s more).text) p.stage
    ∙ append_assoc before (play_one old line).text (play (play_one old line).stage more).text
    ∙ ap (λ c. before ++ (play old c.0).text) (sym (one_line front rest at e))

pub step_stage : (old new : Stage) (front rest before after : Bytes) (at : ℕ) → EndsLine rest at → Plays old (without_return (front ++ take at rest)) before new after
    → (play new (cut [] (drop (at + 1) rest)).0).stage ≡ (play old (cut front rest).0).stage
step_stage old new front rest before after at e p =
    ap (λ s. (play s (cut [] (drop (at + 1) rest)).0).stage) p.stage ∙ ap (λ c. (play old c.0).stage) (sym (one_line front rest at e))

pub step_front : (front rest : Bytes) (at : ℕ) → EndsLine rest at → (cut [] (drop (at + 1) rest)).1 ≡ (cut front rest).1
step_front front rest at e = ap (λ c. c.1) (sym (one_line front rest at e))

-- nothing of the piece is left but what has no line feed
pub feeds_all : (old now : Stage) (old_front front piece rest before after : Bytes) → NoFeed rest
    → after ++ (play now (cut front rest).0).text ≡ before ++ (play old (cut old_front piece).0).text
    → (play now (cut front rest).0).stage ≡ (play old (cut old_front piece).0).stage
    → (cut front rest).1 ≡ (cut old_front piece).1
    → Feeds old old_front piece before now (front ++ rest) after
feeds_all old now old_front front piece rest before after none text stage same =
    let all : cut front rest ≡ ([], front ++ rest) = cut-rest rest front none in
    record {
      text = sym (append-nil after) ∙ ap (λ c. after ++ (play now c.0).text) (sym all) ∙ text;
      stage = ap (λ c. (play now c.0).stage) (sym all) ∙ stage;
      front = ap (λ c. c.1) (sym all) ∙ same;
    }

pub feeds_as : (old new : Stage) (front new_front piece before after : Bytes) → Feeds old front piece before new new_front after → FeedsAs (read_behind front old) piece before (read_behind new_front new) after
feeds_as old new front new_front piece before after f = record {
  text = (play old (cut front piece).0).text;
  wrote = f.text;
  silent = refl;
  meaning = λ how rest. read-more front old how piece rest
      ∙ ap (λ s. behind (play old (cut front piece).0).text (read_behind (cut front piece).1 s how rest)) (sym f.stage)
      ∙ ap (λ r. behind (play old (cut front piece).0).text (read_behind r new how rest)) (sym f.front);
}
