-- The ones' complement sum of words, and the word that makes it 0xffff.
use Rattle.std.proofs.Common.{◌≡◌, ℕ, ◌+◌, ◌-◌, ◌*◌, ◌/◌, ◌%◌, ◌≤◌, List, [], ◌∷◌, ◌++◌, fold, refl, subst, arith}
use Rattle.vxlan_frames.specs.Packets.{ones_add, ones_sum, words, ip_header, summed_header}

abbrev AreWords : List ℕ → Type 0
AreWords [] = Unit {0}
AreWords (w ∷ ws) = (w ≤ 65535) × AreWords ws

-- the plain sum of words, without a carry
abbrev plain : List ℕ → ℕ
plain [] = 0
plain (w ∷ ws) = w + plain ws

-- a sum of 16 bits is what is left of a plain sum
record IsLeft (n m : ℕ) : Type 0 where
  times : ℕ
  value : n ≡ 65535 * times + m
  fits : m ≤ 65535
  zero_only : m ≡ 0 → n ≡ 0

left_of_more : (n m w : ℕ) → IsLeft n m → w ≤ 65535 → IsLeft (n + w) (ones_add m w)
left_of_more n m w l h =
    let v : n ≡ 65535 * l.times + m = l.value in
    let f : m ≤ 65535 = l.fits in
    record {
      times = l.times + (m + w) / 65536;
      value = omega arith;
      fits = omega arith;
      zero_only = λ e. (let z : n ≡ 0 = l.zero_only (omega arith) in omega arith);
    }

left_of_all : (ws : List ℕ) (n m : ℕ) → AreWords ws → IsLeft n m → IsLeft (n + plain ws) (fold ones_add m ws)
left_of_all [] n m a l = subst (λ k. IsLeft k m) (omega arith) l
left_of_all (w ∷ ws) n m a l =
    subst (λ k. IsLeft k (fold ones_add (ones_add m w) ws)) (omega arith) (left_of_all ws (n + w) (ones_add m w) a.1 (left_of_more n m w l a.0))

plain_of_both : (xs ys : List ℕ) → plain (xs ++ ys) ≡ plain xs + plain ys
plain_of_both [] ys = omega arith
plain_of_both (x ∷ xs) ys = omega (arith, plain_of_both xs ys)

both_words : (xs ys : List ℕ) → AreWords xs → AreWords ys → AreWords (xs ++ ys)
both_words [] ys a b = b
both_words (x ∷ xs) ys a b = (a.0, both_words xs ys a.1 b)

left_of_none : IsLeft 0 0
left_of_none = record { times = 0; value = refl; fits = omega arith; zero_only = λ e. refl }

-- what a sum lacks of 0xffff, put in place of a zero word, makes it 0xffff
completed : (before after : List ℕ) (c : ℕ) → AreWords before → AreWords after → c ≡ 0xffff - fold ones_add 0 (before ++ (0 ∷ after))
    → fold ones_add 0 (before ++ (c ∷ after)) ≡ 0xffff
completed before after c a b e =
    let less : c ≤ 65535 = omega arith in
    let first : IsLeft (0 + plain (before ++ (0 ∷ after))) (fold ones_add 0 (before ++ (0 ∷ after))) =
    left_of_all (before ++ (0 ∷ after)) 0 0 (both_words before (0 ∷ after) a (omega arith, b)) left_of_none in
    let second : IsLeft (0 + plain (before ++ (c ∷ after))) (fold ones_add 0 (before ++ (c ∷ after))) =
    left_of_all (before ++ (c ∷ after)) 0 0 (both_words before (c ∷ after) a (less, b)) left_of_none in
    let first_plain : plain (before ++ (0 ∷ after)) ≡ plain before + (0 + plain after) = plain_of_both before (0 ∷ after) in
    let second_plain : plain (before ++ (c ∷ after)) ≡ plain before + (c + plain after) = plain_of_both before (c ∷ after) in
    only_one (plain (before ++ (0 ∷ after))) (plain (before ++ (c ∷ after))) (fold ones_add 0 (before ++ (0 ∷ after))) (fold ones_add 0 (before ++ (c ∷ after))) c first second e (omega arith)
  where
    only_one : (n k m l c : ℕ) → IsLeft (0 + n) m → IsLeft (0 + k) l → c ≡ 0xffff - m → k ≡ n + c → l ≡ 0xffff
    only_one n k m l c p q e f =
        let pv : 0 + n ≡ 65535 * p.times + m = p.value in
        let pf : m ≤ 65535 = p.fits in
        let qv : 0 + k ≡ 65535 * q.times + l = q.value in
        let qf : l ≤ 65535 = q.fits in
        let qz : l ≡ 0 → 0 + k ≡ 0 = q.zero_only in
        let pz : m ≡ 0 → 0 + n ≡ 0 = p.zero_only in
        grind arith

abbrev spelt : ℕ → ℕ
spelt n = 256 * (n / 256 % 256) + n % 256

spelt_less : (n : ℕ) → spelt n ≤ 65535
spelt_less n = omega arith

spelt_back : (n : ℕ) → n ≤ 65535 → spelt n ≡ n
spelt_back n h = omega arith

abbrev before_sum : ℕ → List ℕ
before_sum total = 0x4500 ∷ spelt total ∷ 0 ∷ 0x4000 ∷ 0x4011 ∷ []

abbrev high : ℕ → ℕ
high n = 256 * (n / 16777216 % 256) + n / 65536 % 256

abbrev after_sum : ℕ → ℕ → List ℕ
after_sum src dst = high src ∷ spelt src ∷ high dst ∷ spelt dst ∷ []

high_less : (n : ℕ) → high n ≤ 65535
high_less n = omega arith

header_words : (total c src dst : ℕ) → words (ip_header total c src dst) ≡ before_sum total ++ (spelt c ∷ after_sum src dst)
header_words total c src dst = refl

pub header_summed : (total src dst : ℕ) → ones_sum (summed_header total src dst) ≡ 0xffff
header_summed total src dst =
    let c : ℕ = 0xffff - fold ones_add 0 (before_sum total ++ (0 ∷ after_sum src dst)) in
    completed (before_sum total) (after_sum src dst) (spelt c) (omega arith, (spelt_less total, (omega arith, (omega arith, (omega arith, tt)))))
    (high_less src, (spelt_less src, (high_less dst, (spelt_less dst, tt)))) (spelt_back c (omega arith))
