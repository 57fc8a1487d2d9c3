-- What is printed of a number or an IPv4 address is read as it, and the other way round.
use Rattle.std.proofs.Common.{◌≡◌, ℕ, ◌+◌, ◌-◌, ◌*◌, ◌/◌, ◌%◌, ◌^◌, ◌<◌, ◌≤◌, Bool, true, false, ◌==◌, if◌then◌else◌, [], ◌∷◌, ◌++◌, Option, Some, None, IfSome, codes, decimal, refl, sym, ap, ◌∙◌, append_assoc, append-nil, arith}
use Rattle.std.proofs.lemmas.Bool.Decides.{nat_tests}
use Rattle.std.proofs.lemmas.Fmt.{decimal_digit, decimal_step, decimal_by_steps}
use Rattle.std.specs.Option.{option_and_then}
use Rattle.std.proofs.lemmas.Option.{option_and_then_some}
use Rattle.vtep_base.specs.Reading.{Bytes}
use Rattle.vtep_base.specs.Texts.{digit_after, with_value, number_step, number_done, number_upto, with_octet, after_dot, address, dotted_step, dotted_done, ipv4_of, ipv4_text}
use Rattle.vtep_base.specs.declared.numbers.Number.{Number}
use Rattle.vtep_base.specs.declared.numbers.Octets.{Octets}
use Rattle.vtep_base.specs.declared.numbers.Octets.TheVariants.{Zero, One, Two, Three}
use Rattle.vtep_base.specs.declared.numbers.Dotted.{Dotted}
use Rattle.vtep_base.proofs.Runs.{runs, runs_one, runs_more, runs_spelled, read_runs}

-- ---- one digit more

first_digit : (most c v : ℕ) → 48 ≤ c → c ≤ 57 → v ≡ c - 48 → v ≤ most → digit_after most None c ≡ Some v
first_digit most c v low high is fits = rw is (grind (arith, nat_tests, is, fits, low, high))

next_digit : (most u c v : ℕ) → 48 ≤ c → c ≤ 57 → 0 < u → v ≡ 10 * u + (c - 48) → v ≤ most → digit_after most (Some u) c ≡ Some v
next_digit most u c v low high some is fits = rw is (grind (arith, nat_tests, is, fits, low, high, some))

record Follows (most : ℕ) (o : Option ℕ) (c v : ℕ) : Type 0 where
  low : 48 ≤ c
  high : c ≤ 57
  fits : v ≤ most

follows : (most : ℕ) (o : Option ℕ) (c v : ℕ) → digit_after most o c ≡ Some v → Follows most o c v
follows most None c v e = record { low = grind (arith, nat_tests, e); high = grind (arith, nat_tests, e); fits = grind (arith, nat_tests, e) }
follows most (Some u) c v e = record { low = grind (arith, nat_tests, e); high = grind (arith, nat_tests, e); fits = grind (arith, nat_tests, e) }

worth_first : (most c v : ℕ) → digit_after most None c ≡ Some v → v ≡ c - 48
worth_first most c v e = grind (arith, nat_tests, e)

worth_next : (most u c v : ℕ) → digit_after most (Some u) c ≡ Some v → (v ≡ 10 * u + (c - 48)) × (0 < u)
worth_next most u c v e = (grind (arith, nat_tests, e), grind (arith, nat_tests, e))

abbrev digits_of : Option ℕ → Bytes
digits_of None = []
digits_of (Some v) = decimal v

digit_spelled : (most : ℕ) (o : Option ℕ) (c v : ℕ) → most < 2 ^ 64 → digit_after most o c ≡ Some v → decimal v ≡ digits_of o ++ c ∷ []
digit_spelled most None c v wide e =
    let f = follows most None c v e in
    let w = worth_first most c v e in
    let same : 48 + v ≡ c = omega (arith, f.low, w) in
    decimal_digit v (omega (arith, f.high, w)) ∙ ap (λ b. b ∷ []) same
digit_spelled most (Some u) c v wide e =
    let f = follows most (Some u) c v e in
    let w = worth_next most u c v e in
    let front : v / 10 ≡ u = omega (arith, f.low, f.high, w.0) in
    let end : 48 + v % 10 ≡ c = omega (arith, f.low, f.high, w.0) in
    decimal_step v (omega (arith, w.0, w.1)) (omega (arith, f.fits, wide)) ∙ (λ i. decimal (front i) ++ end i ∷ [])

-- ---- a run over the digits of a number

module _ {S : Type 0} (step : S → ℕ → Option S) (enter : Option ℕ → S) (most : ℕ) (wide : most < 2 ^ 64) (each : (o : Option ℕ) (c v : ℕ) → digit_after most o c ≡ Some v → step (enter o) c ≡ Some (enter (Some v))) where
  digits_run : (n : ℕ) → n ≤ most → runs step (enter None) (decimal n) ≡ Some (enter (Some n))
  digits_run n fits = decimal_by_steps (λ m ds. m ≤ most → runs step (enter None) ds ≡ Some (enter (Some m)))
      (λ m small within. runs_one step (enter None) (enter (Some m)) (enter (Some m)) (48 + m) [] (each None (48 + m) m (first_digit most (48 + m) m (omega arith) (omega arith) (omega arith) within)) refl)
      (λ m ds big front within. runs_more step (enter None) (enter (Some (m / 10))) (enter (Some m)) ds ((48 + m % 10) ∷ []) (front (omega arith))
      (runs_one step (enter (Some (m / 10))) (enter (Some m)) (enter (Some m)) (48 + m % 10) [] (each (Some (m / 10)) (48 + m % 10) m (next_digit most (m / 10) (48 + m % 10) m (omega arith) (omega arith) (omega arith) (omega arith) within)) refl))
      n (omega (arith, fits, wide)) fits

-- ---- numbers

module _ (most : ℕ) (wide : most < 2 ^ 64) where
  abbrev number_front : Option ℕ → Number
  number_front o = record { most = most; value = o }

  pub number_printed_is_read : (n : ℕ) → n ≤ most → number_upto most (decimal n) ≡ Some n
  number_printed_is_read n fits = read_runs number_step number_done 0 (number_front None) (decimal n)
      ∙ ap (option_and_then number_done) (digits_run number_step number_front most wide (λ o c v e. ap (with_value (number_front o)) e) n fits)

  value_of : (s t : Number) (o : Option ℕ) → with_value s o ≡ Some t → (v : ℕ) × (o ≡ Some v) × (t ≡ record s { value = Some v })
  value_of s t None e = absurd (cc)
  value_of s t (Some v) e = (v, refl, cc)

  number_spelled : (s t : Number) (c : ℕ) → number_step s c ≡ Some t → s.most ≡ most → (t.most ≡ most) × (digits_of t.value ≡ digits_of s.value ++ c ∷ [])
  number_spelled s t c e same =
      let v = value_of s t (digit_after s.most s.value c) e in
      (ap (λ u. u.most) v.2 ∙ same, ap (λ u. digits_of u.value) v.2 ∙ digit_spelled s.most s.value c v.0 (omega (arith, same, wide)) v.1)

  pub number_read_is_printed : (text : Bytes) (n : ℕ) → number_upto most text ≡ Some n → decimal n ≡ text
  number_read_is_printed text n e = option_and_then_some number_done (runs number_step (number_front None) text) n (sym (read_runs number_step number_done 0 (number_front None) text) ∙ e)
      (λ s is value. sym (ap digits_of value) ∙ (runs_spelled number_step (λ s. digits_of s.value) (λ s. s.most ≡ most) number_spelled (number_front None) s text is refl).1)

-- ---- IPv4 addresses

abbrev dotted_front : Octets → Option ℕ → Dotted
dotted_front finished o = record { finished = finished; octet = o }

no_dot : (o : Option ℕ) (c v : ℕ) → digit_after 255 o c ≡ Some v → (c == 46) ≡ false
no_dot o c v e = let low = (follows 255 o c v e).low in grind (arith, nat_tests, low)

octet_digit : (finished : Octets) (o : Option ℕ) (c v : ℕ) → digit_after 255 o c ≡ Some v → dotted_step (dotted_front finished o) c ≡ Some (dotted_front finished (Some v))
octet_digit finished o c v e = rw (no_dot o c v e) (ap (with_octet (dotted_front finished o)) e)

octet_run : (finished : Octets) (n : ℕ) → n ≤ 255 → runs dotted_step (dotted_front finished None) (decimal n) ≡ Some (dotted_front finished (Some n))
octet_run finished = digits_run dotted_step (dotted_front finished) 255 (omega arith) (octet_digit finished)

abbrev begun : Dotted
begun = dotted_front Zero None

octet_more : (finished : Octets) (n : ℕ) (front : Bytes) → n ≤ 255 → runs dotted_step begun front ≡ Some (dotted_front finished None) → runs dotted_step begun (front ++ decimal n) ≡ Some (dotted_front finished (Some n))
octet_more finished n front fits e = runs_more dotted_step begun (dotted_front finished None) (dotted_front finished (Some n)) front (decimal n) e (octet_run finished n fits)

dot_more : (finished next : Octets) (n : ℕ) (front : Bytes) → after_dot finished (Some n) ≡ Some (dotted_front next None) → runs dotted_step begun front ≡ Some (dotted_front finished (Some n)) → runs dotted_step begun (front ++ codes ".") ≡ Some (dotted_front next None)
dot_more finished next n front e more = runs_more dotted_step begun (dotted_front finished (Some n)) (dotted_front next None) front (codes ".") more
    (runs_one dotted_step (dotted_front finished (Some n)) (dotted_front next None) (dotted_front next None) 46 [] e refl)

abbrev finished_text : Octets → Bytes
finished_text Zero = []
finished_text (One a) = decimal a ++ codes "."
finished_text (Two a b) = decimal a ++ codes "." ++ decimal b ++ codes "."
finished_text (Three a b c) = ((decimal a ++ codes "." ++ decimal b ++ codes ".") ++ decimal c) ++ codes "."

octets_run : (a b c d : ℕ) → a ≤ 255 → b ≤ 255 → c ≤ 255 → d ≤ 255 → runs dotted_step begun (finished_text (Three a b c) ++ decimal d) ≡ Some (dotted_front (Three a b c) (Some d))
octets_run a b c d fits_a fits_b fits_c fits_d =
    octet_more (Three a b c) d (finished_text (Three a b c)) fits_d
    (dot_more (Two a b) (Three a b c) c (finished_text (Two a b) ++ decimal c) refl
    (octet_more (Two a b) c (finished_text (Two a b)) fits_c
    (dot_more (One a) (Two a b) b (finished_text (One a) ++ decimal b) refl
    (octet_more (One a) b (finished_text (One a)) fits_b (dot_more Zero (One a) a (decimal a) refl (octet_run Zero a fits_a))))))

pub ipv4_printed_is_read : (ip : ℕ) → ip < 2 ^ 32 → ipv4_of (ipv4_text ip) ≡ Some ip
ipv4_printed_is_read ip small =
    let whole : 256 * (256 * (256 * (ip / 2 ^ 24) + ip / 2 ^ 16 % 256) + ip / 2 ^ 8 % 256) + ip % 256 ≡ ip = omega arith in
    read_runs dotted_step dotted_done 0 begun (ipv4_text ip) ∙ ap (option_and_then dotted_done) (octets_run (ip / 2 ^ 24) (ip / 2 ^ 16 % 256) (ip / 2 ^ 8 % 256) (ip % 256) (omega (arith, small)) (omega arith) (omega arith) (omega arith)) ∙ ap Some whole

abbrev dotted_text : Dotted → Bytes
dotted_text s = finished_text s.finished ++ digits_of s.octet

abbrev Octet : Option ℕ → Type 0
Octet o = IfSome o (λ v. v ≤ 255)

abbrev AreOctets : Octets → Type 0
AreOctets Zero = Unit {0}
AreOctets (One a) = a ≤ 255
AreOctets (Two a b) = (a ≤ 255) × (b ≤ 255)
AreOctets (Three a b c) = (a ≤ 255) × (b ≤ 255) × (c ≤ 255)

abbrev IsDotted : Dotted → Type 0
IsDotted s = AreOctets s.finished × Octet s.octet

-- the front behind a dot
dot_spelled : (finished : Octets) (o : Option ℕ) (t : Dotted) → after_dot finished o ≡ Some t → AreOctets finished → Octet o → IsDotted t × (dotted_text t ≡ (finished_text finished ++ digits_of o) ++ codes ".")
dot_spelled finished None t e all small = absurd (cc)
dot_spelled Zero (Some a) t e all small = let is : dotted_front (One a) None ≡ t = cc in rw (sym is) ((small, tt), append-nil (decimal a ++ codes "."))
dot_spelled (One a) (Some b) t e all small = let is : dotted_front (Two a b) None ≡ t = cc in rw (sym is) (((all, small), tt), append-nil (decimal a ++ codes "." ++ decimal b ++ codes "."))
dot_spelled (Two a b) (Some c) t e all small = let is : dotted_front (Three a b c) None ≡ t = cc in rw (sym is) (((all.0, all.1, small), tt), append-nil (((decimal a ++ codes "." ++ decimal b ++ codes ".") ++ decimal c) ++ codes "."))
dot_spelled (Three a b c) (Some d) t e all small = absurd (cc)

octet_of : (s t : Dotted) (o : Option ℕ) → with_octet s o ≡ Some t → (v : ℕ) × (o ≡ Some v) × (t ≡ record s { octet = Some v })
octet_of s t None e = absurd (cc)
octet_of s t (Some v) e = (v, refl, cc)

byte_spelled : (s t : Dotted) (c : ℕ) (b : Bool) → (c == 46) ≡ b → (if b then after_dot s.finished s.octet else with_octet s (digit_after 255 s.octet c)) ≡ Some t → IsDotted s → IsDotted t × (dotted_text t ≡ dotted_text s ++ c ∷ [])
byte_spelled s t c true is e all =
    let dot : c ≡ 46 = grind (arith, nat_tests, is) in
    rw dot (dot_spelled s.finished s.octet t e all.0 all.1)
byte_spelled s t c false is e all =
    let v = octet_of s t (digit_after 255 s.octet c) e in
    rw v.2 ((all.0, (follows 255 s.octet c v.0 v.1).fits), ap (λ x. finished_text s.finished ++ x) (digit_spelled 255 s.octet c v.0 (omega arith) v.1) ∙ sym (append_assoc (finished_text s.finished) (digits_of s.octet) (c ∷ [])))

done_text : (finished : Octets) (o : Option ℕ) (ip : ℕ) → address finished o ≡ Some ip → AreOctets finished → Octet o → (ipv4_text ip ≡ finished_text finished ++ digits_of o) × (ip < 2 ^ 32)
done_text Zero o ip e all small = absurd (cc)
done_text (One a) o ip e all small = absurd (cc)
done_text (Two a b) o ip e all small = absurd (cc)
done_text (Three a b c) None ip e all small = absurd (cc)
done_text (Three a b c) (Some d) ip e all small =
    let is : 256 * (256 * (256 * a + b) + c) + d ≡ ip = cc in
    let first : ip / 2 ^ 24 ≡ a = omega (arith, is, all.0, all.1, all.2, small) in
    let second : ip / 2 ^ 16 % 256 ≡ b = omega (arith, is, all.0, all.1, all.2, small) in
    let third : ip / 2 ^ 8 % 256 ≡ c = omega (arith, is, all.0, all.1, all.2, small) in
    let fourth : ip % 256 ≡ d = omega (arith, is, all.0, all.1, all.2, small) in
    (rw (first, second, third, fourth) refl, omega (arith, is, all.0, all.1, all.2, small))

module _ (text : Bytes) (ip : ℕ) (e : ipv4_of text ≡ Some ip) where
  read_ipv4_whole : (ipv4_text ip ≡ text) × (ip < 2 ^ 32)
  read_ipv4_whole = option_and_then_some dotted_done (runs dotted_step (dotted_front Zero None) text) ip (sym (read_runs dotted_step dotted_done 0 (dotted_front Zero None) text) ∙ e) (λ s is done.
      let r = runs_spelled dotted_step dotted_text IsDotted (λ s t c. byte_spelled s t c (c == 46) refl) (dotted_front Zero None) s text is (tt, tt) in
      let w = done_text s.finished s.octet ip done r.0.0 r.0.1 in
      (w.0 ∙ r.1, w.1))

  pub ipv4_read_is_printed : ipv4_text ip ≡ text
  ipv4_read_is_printed = read_ipv4_whole.0
