-- Each line that is read has values in their ranges.
use Rattle.std.proofs.Common.{◌≡◌, ℕ, ◌≤◌, ◌<◌, ◌^◌, List, Option, Some, None, Result, Ok, Err, refl, ap, subst, arith}
use Rattle.std.specs.Prelude.{drop, slice_get}
use Rattle.vtep_base.specs.Reading.{Bytes}
use Rattle.vtep_base.specs.Chains.{◌>>=◌}
use Rattle.vtep_base.specs.Texts.{name_of, ipv4_of, vni_of, vlan_of}
use Rattle.vtep_base.proofs.NameLaws.{name_read_is_name}
use Rattle.fabric_world.specs.declared.Refusal.{Refusal}
use Rattle.fabric_world.specs.declared.Kind.{Kind}
use Rattle.fabric_world.specs.declared.Kind.TheVariants as kind
use Rattle.fabric_world.specs.declared.Instruction.{Instruction}
use Rattle.fabric_world.specs.declared.Instruction.TheVariants.{Do, End}
use Rattle.fabric_world.specs.Text.{Word, words, bad_byte}
use Rattle.fabric_world.specs.Lines.{session_of, seconds_of, sequence_of, direction_of, action_of, mode_of, hex_of, fields_of, value_at, by_word, word_at, instruction, known_kind, kind_of, first_word, counted, read_words, printable}
use Rattle.fabric_world.specs.ReadLines.{AreBytes, IsName, IsSession, IsLine, ReadLinesAreLines}
use Rattle.fabric_world.proofs.Steps.{same_ok}
use Rattle.fabric_world.proofs.FieldRanges.{fields_are}
use Rattle.fabric_world.proofs.Ranges.{upto, session_is, ipv4_small, hex_bytes}

abbrev Is : Instruction → Type 0
Is (Do line) = IsLine line
Is End = Unit {0}

-- what a step gives that leads on to an answer
given : {A B : Type 0} (P : B → Type 0) (r : Result A Refusal) (f : A → Result B Refusal) (b : B) → ((a : A) → r ≡ Ok a → f a ≡ Ok b → P b) → (r >>= f) ≡ Ok b → P b
given P (Err why) f b h e = absurd (cc)
given P (Ok a) f b h e = h a refl e

abbrev ok : {A : Type 0} → A → Result A Refusal
ok a = Ok a

answer : (a b : Instruction) → ok a ≡ ok b → Is a → Is b
answer a b e p = subst Is (same_ok a b e) p

value_gives : {A : Type 0} (column : ℕ) (o : Option A) (a : A) → value_at column o ≡ Ok a → o ≡ Some a
value_gives column None a e = absurd (cc)
value_gives column (Some b) a e = ap Some (same_ok b a e)

word_gives : {A : Type 0} (P : A → Type 0) (form : Bytes → Option A) (so : (word : Bytes) (a : A) → form word ≡ Some a → P a) (o : Option Word) (a : A) → by_word form o ≡ Ok a → P a
word_gives P form so None a e = absurd (cc)
word_gives P form so (Some w) a e = so w.bytes a (value_gives w.column (form w.bytes) a e)

name_at : (ws : List Word) (place : ℕ) (name : Bytes) → word_at name_of ws place ≡ Ok name → IsName name
name_at ws place name e = word_gives IsName name_of (λ word n is. name_read_is_name word n is) (slice_get ws place) name e

ip_at : (ws : List Word) (place ip : ℕ) → word_at ipv4_of ws place ≡ Ok ip → ip < 2 ^ 32
ip_at ws place ip e = word_gives (λ n. n < 2 ^ 32) ipv4_of ipv4_small (slice_get ws place) ip e

vni_at : (ws : List Word) (place vni : ℕ) → word_at vni_of ws place ≡ Ok vni → vni < 2 ^ 24
vni_at ws place vni e = word_gives (λ n. n < 2 ^ 24) vni_of (λ word n is. let most : n ≤ 16777215 = upto 16777215 n word is in omega (arith, most)) (slice_get ws place) vni e

vlan_at : (ws : List Word) (place vlan : ℕ) → word_at vlan_of ws place ≡ Ok vlan → vlan < 2 ^ 12
vlan_at ws place vlan e = word_gives (λ n. n < 2 ^ 12) vlan_of (λ word n is. let most : n ≤ 4095 = upto 4095 n word is in omega (arith, most)) (slice_get ws place) vlan e

session_at : (ws : List Word) (place s : ℕ) → word_at session_of ws place ≡ Ok s → IsSession s
session_at ws place s e = word_gives IsSession session_of session_is (slice_get ws place) s e

seconds_at : (ws : List Word) (place n : ℕ) → word_at seconds_of ws place ≡ Ok n → n < 2 ^ 32
seconds_at ws place n e = word_gives (λ m. m < 2 ^ 32) seconds_of (λ word m is. let most : m ≤ 4294967295 = upto 4294967295 m word is in omega (arith, most)) (slice_get ws place) n e

sequence_at : (ws : List Word) (place n : ℕ) → word_at sequence_of ws place ≡ Ok n → n < 2 ^ 32
sequence_at ws place n e = seconds_at ws place n e

bytes_at : (ws : List Word) (place : ℕ) (bytes : Bytes) → word_at hex_of ws place ≡ Ok bytes → AreBytes bytes
bytes_at ws place bytes e = word_gives AreBytes hex_of hex_bytes (slice_get ws place) bytes e

instruction_is : (k : Kind) (ws : List Word) (i : Instruction) → instruction k ws ≡ Ok i → Is i
instruction_is kind.Gateway ws i e =
    given Is (word_at name_of ws 1) _ i (λ g eg rest. given Is (word_at ipv4_of ws 2) _ i (λ ip ei last. answer _ i last (name_at ws 1 g eg, ip_at ws 2 ip ei)) rest) e
instruction_is kind.Port ws i e =
    given Is (word_at name_of ws 1) _ i (λ g eg rest. given Is (word_at name_of ws 2) _ i (λ p ep last. answer _ i last (name_at ws 1 g eg, name_at ws 2 p ep)) rest) e
instruction_is kind.Unport ws i e =
    given Is (word_at name_of ws 1) _ i (λ g eg rest. given Is (word_at name_of ws 2) _ i (λ p ep last. answer _ i last (name_at ws 1 g eg, name_at ws 2 p ep)) rest) e
instruction_is kind.Switch ws i e =
    given Is (word_at name_of ws 1) _ i (λ s es rest. given Is (word_at vni_of ws 2) _ i (λ vni ev more. given Is (word_at mode_of ws 3) _ i (λ mode em last. answer _ i last (name_at ws 1 s es, vni_at ws 2 vni ev)) more) rest) e
instruction_is kind.Bind ws i e =
    given Is (word_at name_of ws 1) _ i (λ s es rest. given Is (word_at name_of ws 2) _ i (λ g eg more. given Is (word_at name_of ws 3) _ i (λ p ep third. given Is (word_at vlan_of ws 4) _ i (λ v ev last.
    answer _ i last (name_at ws 1 s es, name_at ws 2 g eg, name_at ws 3 p ep, vlan_at ws 4 v ev)) third) more) rest) e
instruction_is kind.Acl ws i e =
    given Is (word_at name_of ws 1) _ i (λ name en rest. given Is (word_at sequence_of ws 2) _ i (λ sequence es more. given Is (word_at direction_of ws 3) _ i (λ direction ed third. given Is (word_at action_of ws 4) _ i (λ action ea fourth.
    given Is (fields_of (drop 5 ws)) _ i (λ fields ef last. answer _ i last (name_at ws 1 name en, sequence_at ws 2 sequence es, fields_are (drop 5 ws) fields ef)) fourth) third) more) rest) e
instruction_is kind.Guard ws i e =
    given Is (word_at name_of ws 1) _ i (λ g eg rest. given Is (word_at name_of ws 2) _ i (λ p ep more. given Is (word_at vlan_of ws 3) _ i (λ v ev third. given Is (word_at name_of ws 4) _ i (λ name en last.
    answer _ i last (name_at ws 1 g eg, name_at ws 2 p ep, vlan_at ws 3 v ev, name_at ws 4 name en)) third) more) rest) e
instruction_is kind.Unguard ws i e =
    given Is (word_at name_of ws 1) _ i (λ g eg rest. given Is (word_at name_of ws 2) _ i (λ p ep more. given Is (word_at vlan_of ws 3) _ i (λ v ev last.
    answer _ i last (name_at ws 1 g eg, name_at ws 2 p ep, vlan_at ws 3 v ev)) more) rest) e
instruction_is kind.Settle ws i e = answer _ i e tt
instruction_is kind.Frame ws i e =
    given Is (word_at name_of ws 1) _ i (λ g eg rest. given Is (word_at name_of ws 2) _ i (λ p ep more. given Is (word_at hex_of ws 3) _ i (λ bytes eb last.
    answer _ i last (name_at ws 1 g eg, name_at ws 2 p ep, bytes_at ws 3 bytes eb)) more) rest) e
instruction_is kind.Underlay ws i e = given Is (word_at name_of ws 1) _ i (λ g eg rest. given Is (word_at hex_of ws 2) _ i (λ bytes eb last. answer _ i last (name_at ws 1 g eg, bytes_at ws 2 bytes eb)) rest) e
instruction_is kind.Age ws i e = given Is (word_at name_of ws 1) _ i (λ g eg rest. given Is (word_at seconds_of ws 2) _ i (λ n en last. answer _ i last (name_at ws 1 g eg, seconds_at ws 2 n en)) rest) e
instruction_is kind.Rpc ws i e =
    given Is (word_at name_of ws 1) _ i (λ g eg rest. given Is (word_at session_of ws 2) _ i (λ s es more. given Is (word_at hex_of ws 3) _ i (λ bytes eb last.
    answer _ i last (name_at ws 1 g eg, session_at ws 2 s es, bytes_at ws 3 bytes eb)) more) rest) e
instruction_is kind.Hangup ws i e = given Is (word_at name_of ws 1) _ i (λ g eg rest. given Is (word_at session_of ws 2) _ i (λ s es last. answer _ i last (name_at ws 1 g eg, session_at ws 2 s es)) rest) e
instruction_is kind.Show ws i e = given Is (word_at name_of ws 1) _ i (λ g eg last. answer _ i last (name_at ws 1 g eg)) e
instruction_is kind.End ws i e = answer _ i e tt

words_are : (ws : List Word) (i : Instruction) → read_words ws ≡ Ok i → Is i
words_are ws i e = given Is (known_kind ws (kind_of (first_word ws))) _ i (λ k ek rest. given Is (counted k ws) _ i (λ checked ec last. instruction_is checked ws i last) rest) e

pub read_lines_are_lines : ReadLinesAreLines
read_lines_are_lines text line e = given Is (printable (bad_byte text) text) _ (Do line) (λ t et last. words_are (words t) (Do line) last) e
