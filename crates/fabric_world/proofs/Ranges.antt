-- In which ranges the values are that are read of words.
use Rattle.std.proofs.Common.{◌≡◌, ◌≤◌, ◌<◌, ◌+◌, ◌*◌, ◌^◌, ℕ, suc, Bool, true, false, cond, [], ◌∷◌, length, Option, Some, None, IfSome, Result, Ok, Err, IfOk, refl, sym, subst, ◌∙◌, arith}
use Rattle.std.specs.Prelude.{◌==◌, ◌-◌, slice_index, codes}
use Rattle.std.specs.Option.{option_and_then}
use Rattle.std.specs.Result.{result_ok}
use Rattle.std.proofs.lemmas.Bool.Decides.{nat_tests}
use Rattle.std.proofs.lemmas.Option.{option_and_then_some}
use Rattle.hex.specs.Hex.{decode_of}
use Rattle.hex.proofs.HexLemmas.{decode_of-ok}
use Rattle.hex.specs.declared.error.FromHexError.{FromHexError}
use Rattle.vtep_base.specs.Reading.{Bytes}
use Rattle.vtep_base.specs.Texts.{digit_after, read_number, number_upto, with_octet, after_dot, address, dotted_step, dotted_done, ipv4_of}
use Rattle.vtep_base.specs.declared.numbers.Octets.{Octets}
use Rattle.vtep_base.specs.declared.numbers.Octets.TheVariants.{Zero, One, Two, Three}
use Rattle.vtep_base.specs.declared.numbers.Dotted.{Dotted}
use Rattle.vtep_base.proofs.Runs.{runs, read_runs}
use Rattle.vtep_base.proofs.Within.{number_within}
use Rattle.fabric_world.specs.Fields.{is_word}
use Rattle.fabric_world.specs.Lines.{not_zero, session_of, hex_of}
use Rattle.fabric_world.specs.ReadLines.{AreBytes, IsSession}

pub same_some : {A : Type 0} (x y : A) → Some x ≡ Some y → x ≡ y
same_some x y e = cc

-- ---- numbers

read_within : {E : Type 0} (P : ℕ → Type 0) (r : Result ℕ E) (n : ℕ) → IfOk r P → result_ok r ≡ Some n → P n
read_within P (Ok m) n h e = subst P (same_some m n e) h
read_within P (Err why) n h e = absurd (cc)

pub upto : (most n : ℕ) (word : Bytes) → number_upto most word ≡ Some n → n ≤ most
upto most n word e = read_within (λ m. m ≤ most) (read_number most word) n (number_within most 0 None word tt) e

not_zero_is : (o : Option ℕ) (s : ℕ) → option_and_then not_zero o ≡ Some s → (1 ≤ s) × (o ≡ Some s)
not_zero_is None s e = absurd (cc)
not_zero_is (Some n) s e = by (n == 0) refl e
  where
    by : (t : Bool) → (n == 0) ≡ t → cond t None (Some n) ≡ Some s → (1 ≤ s) × (Some n ≡ Some s)
    by true is f = absurd (cc)
    by false is f = (let same : n ≡ s = same_some n s f in grind (arith, nat_tests, is, same), f)

pub session_is : (word : Bytes) (s : ℕ) → session_of word ≡ Some s → IsSession s
session_is word s e =
    let n = not_zero_is (number_upto (2 ^ 32 - 1) word) s e in
    let most : s ≤ 2 ^ 32 - 1 = upto (2 ^ 32 - 1) s word n.1 in
    (n.0, omega (arith, most))

-- ---- addresses

abbrev AreOctets : Octets → Type 0
AreOctets Zero = Unit {0}
AreOctets (One a) = a ≤ 255
AreOctets (Two a b) = (a ≤ 255) × (b ≤ 255)
AreOctets (Three a b c) = (a ≤ 255) × (b ≤ 255) × (c ≤ 255)

abbrev IsOctet : Option ℕ → Type 0
IsOctet o = IfSome o (λ v. v ≤ 255)

abbrev IsDotted : Dotted → Type 0
IsDotted s = AreOctets s.finished × IsOctet s.octet

abbrev front : Octets → Option ℕ → Dotted
front finished o = record { finished = finished; octet = o }

digit_small : (o : Option ℕ) (c v : ℕ) → digit_after 255 o c ≡ Some v → v ≤ 255
digit_small None c v e = grind (arith, nat_tests, e)
digit_small (Some u) c v e = grind (arith, nat_tests, e)

dot_keeps : (finished : Octets) (o : Option ℕ) (t : Dotted) → after_dot finished o ≡ Some t → AreOctets finished → IsOctet o → IsDotted t
dot_keeps finished None t e all small = absurd (cc)
dot_keeps Zero (Some a) t e all small = subst IsDotted (same_some (front (One a) None) t e) (small, tt)
dot_keeps (One a) (Some b) t e all small = subst IsDotted (same_some (front (Two a b) None) t e) ((all, small), tt)
dot_keeps (Two a b) (Some c) t e all small = subst IsDotted (same_some (front (Three a b c) None) t e) ((all.0, all.1, small), tt)
dot_keeps (Three a b c) (Some d) t e all small = absurd (cc)

octet_keeps : (s t : Dotted) (c : ℕ) (o : Option ℕ) → digit_after 255 s.octet c ≡ o → with_octet s o ≡ Some t → AreOctets s.finished → IsDotted t
octet_keeps s t c None is e all = absurd (cc)
octet_keeps s t c (Some v) is e all = subst IsDotted (same_some (front s.finished (Some v)) t e) (all, digit_small s.octet c v is)

step_keeps : (s t : Dotted) (c : ℕ) → dotted_step s c ≡ Some t → IsDotted s → IsDotted t
step_keeps s t c e all = by (c == 46) e
  where
    by : (b : Bool) → cond b (after_dot s.finished s.octet) (with_octet s (digit_after 255 s.octet c)) ≡ Some t → IsDotted t
    by true f = dot_keeps s.finished s.octet t f all.0 all.1
    by false f = octet_keeps s t c (digit_after 255 s.octet c) refl f all.0

run_keeps : (s t : Dotted) (text : Bytes) → runs dotted_step s text ≡ Some t → IsDotted s → IsDotted t
run_keeps s t [] e all = subst IsDotted (same_some s t e) all
run_keeps s t (c ∷ cs) e all = option_and_then_some (λ r. runs dotted_step r cs) (dotted_step s c) t e (λ r is more. run_keeps r t cs more (step_keeps s r c is all))

address_small : (finished : Octets) (o : Option ℕ) (ip : ℕ) → address finished o ≡ Some ip → AreOctets finished → IsOctet o → ip < 2 ^ 32
address_small Zero o ip e all small = absurd (cc)
address_small (One a) o ip e all small = absurd (cc)
address_small (Two a b) o ip e all small = absurd (cc)
address_small (Three a b c) None ip e all small = absurd (cc)
address_small (Three a b c) (Some d) ip e all small =
    let is : 256 * (256 * (256 * a + b) + c) + d ≡ ip = same_some (256 * (256 * (256 * a + b) + c) + d) ip e in
    omega (arith, is, all.0, all.1, all.2, small)

pub ipv4_small : (text : Bytes) (ip : ℕ) → ipv4_of text ≡ Some ip → ip < 2 ^ 32
ipv4_small text ip e =
    option_and_then_some dotted_done (runs dotted_step (front Zero None) text) ip (sym (read_runs dotted_step dotted_done 0 (front Zero None) text) ∙ e)
    (λ s is done. let all : IsDotted s = run_keeps (front Zero None) s text is (tt, tt) in address_small s.finished s.octet ip done all.0 all.1)

-- ---- bytes

each_byte : (bytes : Bytes) → ((i : ℕ) → slice_index bytes i < 256) → AreBytes bytes
each_byte [] h = tt
each_byte (b ∷ bs) h = (h 0, each_byte bs (λ i. h (suc i)))

decoded_bytes : (word bytes : Bytes) (r : Result Bytes FromHexError) → decode_of word ≡ r → result_ok r ≡ Some bytes → AreBytes bytes
decoded_bytes word bytes (Ok x) is e = subst AreBytes (same_some x bytes e) (each_byte x (decode_of-ok word x is).3)
decoded_bytes word bytes (Err why) is e = absurd (cc)

pub hex_bytes : (word bytes : Bytes) → hex_of word ≡ Some bytes → AreBytes bytes
hex_bytes word bytes e = by (is_word word (codes "-")) (length word == 0) e
  where
    by : (b c : Bool) → cond b (Some []) (cond c None (result_ok (decode_of word))) ≡ Some bytes → AreBytes bytes
    by true c f = subst AreBytes (same_some [] bytes f) tt
    by false true f = absurd (cc)
    by false false f = decoded_bytes word bytes (decode_of word) refl f
