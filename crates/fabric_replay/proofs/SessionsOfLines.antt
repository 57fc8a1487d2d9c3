-- Lines of sessions are never of session 0.
use Rattle.std.proofs.Common.{◌≡◌, ℕ, ◌≤◌, ◌-◌, ◌^◌, Bool, true, false, cond, List, Option, Some, None, Result, Ok, Err, refl, ap, subst, arith}
use Rattle.std.specs.Prelude.{◌==◌, drop, option_and_then, slice_get}
use Rattle.std.proofs.lemmas.Bool.Decides.{nat_tests}
use Rattle.vtep_base.specs.Reading.{Bytes}
use Rattle.vtep_base.specs.Chains.{◌>>=◌}
use Rattle.vtep_base.specs.Texts.{name_of, ipv4_of, vni_of, vlan_of, number_upto}
use Rattle.fabric_world.specs.declared.Refusal.{Refusal}
use Rattle.fabric_world.specs.declared.Kind.{Kind}
use Rattle.fabric_world.specs.declared.Kind.TheVariants as kind
use Rattle.fabric_world.specs.declared.Instruction.{Instruction}
use Rattle.fabric_world.specs.Text.{Word, words, bad_byte}
use Rattle.fabric_world.specs.Lines.{not_zero, session_of, seconds_of, sequence_of, direction_of, action_of, mode_of, hex_of, fields_of, value_at, by_word, word_at, instruction, known_kind, kind_of, first_word, counted, read_words, printable, read_line}
use Rattle.fabric_replay.specs.Seen.{DoesHaveSession}

-- what a step gives that leads on to an answer
given : {A B : Type 0} (P : B → Type 0) (r : Result A Refusal) (f : A → Result B Refusal) (b : B) → ((a : A) → r ≡ Ok a → f a ≡ Ok b → P b) → (r >>= f) ≡ Ok b → P b
given P (Err why) f b h e = absurd (grind arith)
given P (Ok a) f b h e = h a refl e

abbrev ok : {A : Type 0} → A → Result A Refusal
ok a = Ok a

same_answer : {A : Type 0} (a b : A) → ok a ≡ ok b → a ≡ b
same_answer a b e = grind arith

answer : {B : Type 0} (P : B → Type 0) (a b : B) → ok a ≡ ok b → P a → P b
answer P a b e p = subst P (same_answer a b e) p

not_zero_gives : (n s : ℕ) → not_zero n ≡ Some s → 1 ≤ s
not_zero_gives n s e = by (n == 0) refl e
  where
    by : (t : Bool) → (n == 0) ≡ t → cond t None (Some n) ≡ Some s → 1 ≤ s
    by true is e = absurd (grind arith)
    by false is e = grind (arith, nat_tests)

session_gives : (o : Option ℕ) (s : ℕ) → option_and_then not_zero o ≡ Some s → 1 ≤ s
session_gives None s e = absurd (grind arith)
session_gives (Some n) s e = not_zero_gives n s e

value_gives : {A : Type 0} (column : ℕ) (o : Option A) (a : A) → value_at column o ≡ Ok a → o ≡ Some a
value_gives column None a e = absurd (grind arith)
value_gives column (Some b) a e = ap Some (same_answer b a e)

word_gives : {A : Type 0} (form : Bytes → Option A) (o : Option Word) (a : A) → by_word form o ≡ Ok a → (w : Word) × (form w.bytes ≡ Some a)
word_gives form None a e = absurd (grind arith)
word_gives form (Some w) a e = (w, value_gives w.column (form w.bytes) a e)

session_at : (ws : List Word) (place s : ℕ) → word_at session_of ws place ≡ Ok s → 1 ≤ s
session_at ws place s e =
    let w = word_gives session_of (slice_get ws place) s e in
    session_gives (number_upto (2 ^ 32 - 1) w.0.bytes) s w.1

abbrev Is : Instruction → Type 0
Is i = DoesHaveSession i

instruction_session : (k : Kind) (ws : List Word) (i : Instruction) → instruction k ws ≡ Ok i → DoesHaveSession i
instruction_session kind.Gateway ws i e = given Is (word_at name_of ws 1) _ i (λ g eg rest. given Is (word_at ipv4_of ws 2) _ i (λ ip ei last. answer Is _ i last tt) rest) e
instruction_session kind.Port ws i e = given Is (word_at name_of ws 1) _ i (λ g eg rest. given Is (word_at name_of ws 2) _ i (λ p ep last. answer Is _ i last tt) rest) e
instruction_session kind.Unport ws i e = given Is (word_at name_of ws 1) _ i (λ g eg rest. given Is (word_at name_of ws 2) _ i (λ p ep last. answer Is _ i last tt) rest) e
instruction_session kind.Switch ws i e =
    given Is (word_at name_of ws 1) _ i (λ s es rest. given Is (word_at vni_of ws 2) _ i (λ vni ev more. given Is (word_at mode_of ws 3) _ i (λ mode em last. answer Is _ i last tt) more) rest) e
instruction_session kind.Bind ws i e =
    given Is (word_at name_of ws 1) _ i (λ s es rest. given Is (word_at name_of ws 2) _ i (λ g eg more. given Is (word_at name_of ws 3) _ i (λ p ep third. given Is (word_at vlan_of ws 4) _ i (λ v ev last. answer Is _ i last tt) third) more) rest) e
instruction_session kind.Acl ws i e =
    given Is (word_at name_of ws 1) _ i (λ name en rest. given Is (word_at sequence_of ws 2) _ i (λ sequence es more. given Is (word_at direction_of ws 3) _ i (λ direction ed third. given Is (word_at action_of ws 4) _ i (λ action ea fourth.
    given Is (fields_of (drop 5 ws)) _ i (λ fields ef last. answer Is _ i last tt) fourth) third) more) rest) e
instruction_session kind.Guard ws i e =
    given Is (word_at name_of ws 1) _ i (λ g eg rest. given Is (word_at name_of ws 2) _ i (λ p ep more. given Is (word_at vlan_of ws 3) _ i (λ v ev third. given Is (word_at name_of ws 4) _ i (λ name en last. answer Is _ i last tt) third) more) rest) e
instruction_session kind.Unguard ws i e =
    given Is (word_at name_of ws 1) _ i (λ g eg rest. given Is (word_at name_of ws 2) _ i (λ p ep more. given Is (word_at vlan_of ws 3) _ i (λ v ev last. answer Is _ i last tt) more) rest) e
instruction_session kind.Settle ws i e = answer Is _ i e tt
instruction_session kind.Frame ws i e =
    given Is (word_at name_of ws 1) _ i (λ g eg rest. given Is (word_at name_of ws 2) _ i (λ p ep more. given Is (word_at hex_of ws 3) _ i (λ bytes eb last. answer Is _ i last tt) more) rest) e
instruction_session kind.Underlay ws i e = given Is (word_at name_of ws 1) _ i (λ g eg rest. given Is (word_at hex_of ws 2) _ i (λ bytes eb last. answer Is _ i last tt) rest) e
instruction_session kind.Age ws i e = given Is (word_at name_of ws 1) _ i (λ g eg rest. given Is (word_at seconds_of ws 2) _ i (λ n en last. answer Is _ i last tt) rest) e
instruction_session kind.Rpc ws i e =
    given Is (word_at name_of ws 1) _ i (λ g eg rest. given Is (word_at session_of ws 2) _ i (λ s es more. given Is (word_at hex_of ws 3) _ i (λ bytes eb last. answer Is _ i last (session_at ws 2 s es)) more) rest) e
instruction_session kind.Hangup ws i e = given Is (word_at name_of ws 1) _ i (λ g eg rest. given Is (word_at session_of ws 2) _ i (λ s es last. answer Is _ i last (session_at ws 2 s es)) rest) e
instruction_session kind.Show ws i e = given Is (word_at name_of ws 1) _ i (λ g eg last. answer Is _ i last tt) e
instruction_session kind.End ws i e = answer Is _ i e tt

words_session : (ws : List Word) (i : Instruction) → read_words ws ≡ Ok i → DoesHaveSession i
words_session ws i e = given Is (known_kind ws (kind_of (first_word ws))) _ i (λ k ek rest. given Is (counted k ws) _ i (λ checked ec last. instruction_session checked ws i last) rest) e

pub read_session : (line : Bytes) (i : Instruction) → read_line line ≡ Ok i → DoesHaveSession i
read_session line i e = given Is (printable (bad_byte line) line) _ i (λ text et last. words_session (words text) i last) e
