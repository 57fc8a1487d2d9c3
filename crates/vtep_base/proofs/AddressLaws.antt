-- What is printed of an Ethernet address is read as it, and what is read is printed in lower case.
use Rattle.std.proofs.Common.{◌≡◌, ℕ, zero, suc, ◌+◌, ◌-◌, ◌*◌, ◌/◌, ◌%◌, ◌^◌, ◌<◌, Bool, true, false, ◌&&◌, nat_le, ◌==◌, if◌then◌else◌, [], ◌∷◌, ◌++◌, Option, Some, None, refl, sym, ap, ◌∙◌, arith}
use Rattle.std.proofs.lemmas.Bool.Decides.{nat_tests}
use Rattle.std.proofs.Math.Nat.{div-div-eq-div-mul, div-one, pow-suc}
use Rattle.std.specs.Option.{option_and_then}
use Rattle.std.proofs.lemmas.Option.{option_and_then_some}
use Rattle.vtep_base.specs.Reading.{Bytes}
use Rattle.vtep_base.specs.Addresses.{be_bytes, hex_value, hex_digit, pair_text, pairs_text, mac_step, mac_done, mac_of, mac_text, with_digit, lower}
use Rattle.vtep_base.proofs.Runs.{runs, runs_one, read_runs}

abbrev lower_byte : ℕ → ℕ
lower_byte c = if nat_le 65 c && nat_le c 90 then c + 32 else c

hex_back : (d : ℕ) → d < 16 → hex_value (hex_digit d) ≡ Some d
hex_back d h = grind (arith, nat_tests)

-- a byte with a value is the digit of that value, but for its case
hex_forth : (c d : ℕ) → hex_value c ≡ Some d → (d < 16) × (hex_digit d ≡ lower_byte c)
hex_forth c d e = (grind (arith, nat_tests, e), grind (arith, nat_tests, e))

digit_step : (left n c : ℕ) → 0 < left % 3 → mac_step (left, n) c ≡ with_digit (left - 1) n (hex_value c)
digit_step left n c h = grind (arith, nat_tests)

colon_step : (left n c : ℕ) → 0 < left → left % 3 ≡ 0 → mac_step (left, n) c ≡ (if c == 58 then Some (left - 1, n) else None)
colon_step left n c h k = grind (arith, nat_tests)

one_digit : (left l n w c d : ℕ) → hex_value c ≡ Some d → 0 < left % 3 → left ≡ l + 1 → w ≡ 16 * n + d → mac_step (left, n) c ≡ Some (l, w)
one_digit left l n w c d e at fewer worth =
    let one : left - 1 ≡ l = omega (arith, fewer) in
    digit_step left n c at ∙ ap (with_digit (left - 1) n) e ∙ (λ i. Some (one i, sym worth i))

one_colon : (left l n : ℕ) → left % 3 ≡ 0 → left ≡ l + 1 → mac_step (left, n) 58 ≡ Some (l, n)
one_colon left l n at fewer =
    let one : left - 1 ≡ l = omega (arith, fewer) in
    colon_step left n 58 (omega (arith, fewer)) at ∙ (λ i. Some (one i, n))

shorter : (m k : ℕ) → m / 256 ^ suc k ≡ m / 256 ^ k / 256
shorter m k = rw (pow-suc 256 k) (sym (div-div-eq-div-mul m (256 ^ k) 256))

-- a pair of digits
pair_runs : (left n w b : ℕ) (cs : Bytes) (f : ℕ × ℕ) → left % 3 ≡ 2 → b < 256 → w ≡ 256 * n + b → runs mac_step (left - 2, w) cs ≡ Some f → runs mac_step (left, n) (pair_text b ++ cs) ≡ Some f
pair_runs left n w b cs f at small worth e =
    let high : mac_step (left, n) (hex_digit (b / 16)) ≡ Some (left - 1, 16 * n + b / 16) = one_digit left (left - 1) n (16 * n + b / 16) (hex_digit (b / 16)) (b / 16) (hex_back (b / 16) (omega (arith, small))) (omega (arith, at)) (omega (arith, at)) refl in
    let low : mac_step (left - 1, 16 * n + b / 16) (hex_digit (b % 16)) ≡ Some (left - 2, w) = one_digit (left - 1) (left - 2) (16 * n + b / 16) w (hex_digit (b % 16)) (b % 16) (hex_back (b % 16) (omega (arith, small))) (omega (arith, at)) (omega (arith, at)) (omega (arith, worth)) in
    runs_one mac_step (left, n) (left - 1, 16 * n + b / 16) f (hex_digit (b / 16)) (hex_digit (b % 16) ∷ cs) high
    (runs_one mac_step (left - 1, 16 * n + b / 16) (left - 2, w) f (hex_digit (b % 16)) cs low e)

-- so many more pairs, of which the first follows at once
pairs_run : (k m : ℕ) → runs mac_step (3 * k + 2, m / 256 ^ suc k) (pairs_text (be_bytes (suc k) m)) ≡ Some (0, m)
pairs_run zero m =
    let worth : m ≡ 256 * (m / 256 ^ 1) + m / 256 ^ 0 % 256 = rw (div-one m) (omega arith) in
    pair_runs 2 (m / 256 ^ 1) m (m / 256 ^ 0 % 256) [] (0, m) refl (omega arith) worth refl
pairs_run (suc k) m =
    let worth : m / 256 ^ suc k ≡ 256 * (m / 256 ^ suc (suc k)) + m / 256 ^ suc k % 256 = rw (shorter m (suc k)) (omega arith) in
    pair_runs (3 * suc k + 2) (m / 256 ^ suc (suc k)) (m / 256 ^ suc k) (m / 256 ^ suc k % 256) (58 ∷ pairs_text (be_bytes (suc k) m)) (0, m) (omega arith) (omega arith) worth
    (runs_one mac_step (3 * suc k + 2 - 2, m / 256 ^ suc k) (3 * k + 2, m / 256 ^ suc k) (0, m) 58 (pairs_text (be_bytes (suc k) m)) (one_colon (3 * suc k + 2 - 2) (3 * k + 2) (m / 256 ^ suc k) (omega arith) (omega arith)) (pairs_run k m))

pub mac_printed_is_read : (m : ℕ) → m < 2 ^ 48 → mac_of (mac_text m) ≡ Some m
mac_printed_is_read m small =
    let none : m / 256 ^ 6 ≡ 0 = omega (arith, small) in
    let run : runs mac_step (17, 0) (mac_text m) ≡ Some (0, m) = ap (λ n. runs mac_step (17, n) (mac_text m)) (sym none) ∙ pairs_run 5 m in
    read_runs mac_step mac_done 0 (17, 0) (mac_text m) ∙ ap (option_and_then mac_done) run

-- ---- what is read is printed

abbrev first_of : Option (ℕ × ℕ) → ℕ
first_of None = 0
first_of (Some s) = s.0

abbrev second_of : Option (ℕ × ℕ) → ℕ
second_of None = 0
second_of (Some s) = s.1

-- the digit that a text begins with
record Digit (left n m : ℕ) (text : Bytes) : Type 0 where
  byte : ℕ
  rest : Bytes
  value : ℕ
  is : text ≡ byte ∷ rest
  means : hex_value byte ≡ Some value
  more : runs mac_step (left - 1, 16 * n + value) rest ≡ Some (0, m)

digit_of : (left n : ℕ) (o : Option ℕ) (s : ℕ × ℕ) → with_digit left n o ≡ Some s → (d : ℕ) × (o ≡ Some d) × (s ≡ (left, 16 * n + d))
digit_of left n None s e = absurd (cc)
digit_of left n (Some d) s e = (d, refl, cc)

digit_first : (left n m : ℕ) (text : Bytes) → 0 < left % 3 → runs mac_step (left, n) text ≡ Some (0, m) → Digit left n m text
digit_first left n m [] at e = let none : left ≡ 0 = ap first_of e in absurd (omega (arith, none, at))
digit_first left n m (c ∷ cs) at e = option_and_then_some (λ t. runs mac_step t cs) (mac_step (left, n) c) (0, m) e (λ s is more.
    let d = digit_of (left - 1) n (hex_value c) s (sym (digit_step left n c at) ∙ is) in
    record { byte = c; rest = cs; value = d.0; is = refl; means = d.1; more = ap (λ t. runs mac_step t cs) (sym d.2) ∙ more })

colon_of : (b : Bool) (left n c : ℕ) (s : ℕ × ℕ) → (c == 58) ≡ b → (if b then Some (left, n) else None) ≡ Some s → (c ≡ 58) × (s ≡ (left, n))
colon_of true left n c s t e = (grind (arith, nat_tests, t), cc)
colon_of false left n c s t e = absurd (cc)

colon_first : (left n m : ℕ) (text : Bytes) → 0 < left → left % 3 ≡ 0 → runs mac_step (left, n) text ≡ Some (0, m) → (rest : Bytes) × (text ≡ 58 ∷ rest) × (runs mac_step (left - 1, n) rest ≡ Some (0, m))
colon_first left n m [] some at e = let none : left ≡ 0 = ap first_of e in absurd (omega (arith, none, some))
colon_first left n m (c ∷ cs) some at e = option_and_then_some (λ t. runs mac_step t cs) (mac_step (left, n) c) (0, m) e (λ s is more.
    let d = colon_of (c == 58) (left - 1) n c s refl (sym (colon_step left n c some at) ∙ is) in
    (cs, ap (λ b. b ∷ cs) d.0, ap (λ t. runs mac_step t cs) (sym d.1) ∙ more))

at_end : (n m : ℕ) (text : Bytes) → runs mac_step (0, n) text ≡ Some (0, m) → (text ≡ []) × (n ≡ m)
at_end n m [] e = (refl, ap second_of e)
at_end n m (c ∷ cs) e = absurd (cc)

pair_spells : (b c d x y : ℕ) → b ≡ 16 * x + y → hex_value c ≡ Some x → hex_value d ≡ Some y → lower_byte c ∷ lower_byte d ∷ [] ≡ pair_text b
pair_spells b c d x y worth high low =
    let first = hex_forth c x high in
    let second = hex_forth d y low in
    let upper : x ≡ b / 16 = omega (arith, worth, second.0) in
    let under : y ≡ b % 16 = omega (arith, worth, second.0) in
    (λ i. sym first.1 i ∷ sym second.1 i ∷ []) ∙ (λ i. hex_digit (upper i) ∷ hex_digit (under i) ∷ [])

pair_and_colon : (b c d x y : ℕ) (rest pairs : Bytes) → b ≡ 16 * x + y → hex_value c ≡ Some x → hex_value d ≡ Some y → lower rest ≡ pairs → lower (c ∷ d ∷ 58 ∷ rest) ≡ pair_text b ++ 58 ∷ pairs
pair_and_colon b c d x y rest pairs worth high low e =
    let pair = pair_spells b c d x y worth high low in
    λ i. pair i ++ 58 ∷ e i

-- so many more pairs, of which the first follows at once
pairs_back : (k n m : ℕ) (text : Bytes) → runs mac_step (3 * k + 2, n) text ≡ Some (0, m) → (lower text ≡ pairs_text (be_bytes (suc k) m)) × (m / 256 ^ suc k ≡ n)
pairs_back zero n m text e =
    let high = digit_first 2 n m text (omega arith) e in
    let low = digit_first 1 (16 * n + high.value) m high.rest (omega arith) high.more in
    let end = at_end (16 * (16 * n + high.value) + low.value) m low.rest low.more in
    let under_x = (hex_forth high.byte high.value high.means).0 in
    let under_y = (hex_forth low.byte low.value low.means).0 in
    let worth : m / 256 ^ 0 % 256 ≡ 16 * high.value + low.value = rw (div-one m) (omega (arith, end.1, under_x, under_y)) in (
      rw (high.is, low.is, end.0) (pair_spells (m / 256 ^ 0 % 256) high.byte low.byte high.value low.value worth high.means low.means),
      omega (arith, end.1, under_x, under_y),
    )
pairs_back (suc k) n m text e =
    let high = digit_first (3 * suc k + 2) n m text (omega arith) e in
    let low = digit_first (3 * suc k + 2 - 1) (16 * n + high.value) m high.rest (omega arith) high.more in
    let colon = colon_first (3 * suc k + 2 - 1 - 1) (16 * (16 * n + high.value) + low.value) m low.rest (omega arith) (omega arith) low.more in
    let fewer : 3 * suc k + 2 - 1 - 1 - 1 ≡ 3 * k + 2 = omega arith in
    let more : runs mac_step (3 * k + 2, 16 * (16 * n + high.value) + low.value) colon.0 ≡ Some (0, m) = rw fewer at colon.2 in
    let rest = pairs_back k (16 * (16 * n + high.value) + low.value) m colon.0 more in
    let under_x = (hex_forth high.byte high.value high.means).0 in
    let under_y = (hex_forth low.byte low.value low.means).0 in
    let worth : m / 256 ^ suc k % 256 ≡ 16 * high.value + low.value = omega (arith, rest.1, under_x, under_y) in (
      rw (high.is, low.is, colon.1) (pair_and_colon (m / 256 ^ suc k % 256) high.byte low.byte high.value low.value colon.0 (pairs_text (be_bytes (suc k) m)) worth high.means low.means rest.0),
      shorter m (suc k) ∙ omega (arith, rest.1, under_x, under_y),
    )

done_of : (s : ℕ × ℕ) (m : ℕ) → mac_done s ≡ Some m → s ≡ (0, m)
done_of (zero, n) m e = cc
done_of (suc left, n) m e = absurd (grind (arith, nat_tests, e))

module _ (text : Bytes) (m : ℕ) (e : mac_of text ≡ Some m) where
  whole : (lower text ≡ mac_text m) × (m / 256 ^ 6 ≡ 0)
  whole = option_and_then_some mac_done (runs mac_step (17, 0) text) m (sym (read_runs mac_step mac_done 0 (17, 0) text) ∙ e) (λ s is more. pairs_back 5 0 m text (is ∙ ap Some (done_of s m more)))

  pub mac_read_is_printed : mac_text m ≡ lower text
  mac_read_is_printed = sym whole.0

  pub mac_read_fits : m < 2 ^ 48
  mac_read_fits = omega (arith, whole.1)
