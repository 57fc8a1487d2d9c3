-- The texts of Ethernet addresses are ASCII.
use Rattle.std.proofs.Common.{ℕ, zero, suc, ◌/◌, ◌%◌, ◌^◌, ◌<◌, [], ◌∷◌, ◌++◌, codes, arith, lit<}
use Rattle.std.proofs.lemmas.Bool.Decides.{nat_tests}
use Rattle.std.proofs.Math.Nat.{mod-lt}
use Rattle.std.proofs.lemmas.Str.{IsUtf8-from_ascii, IsAscii-append}
use Rattle.std.specs.Str.{IsAscii, IsUtf8}
use Rattle.vtep_base.specs.Reading.{Bytes}
use Rattle.vtep_base.specs.Addresses.{be_bytes, hex_digit, pair_text, pairs_text, mac_text}

none : IsAscii []
none i = lit< tt

more : (c : ℕ) (cs : Bytes) → c < 128 → IsAscii cs → IsAscii (c ∷ cs)
more c cs h rest zero = h
more c cs h rest (suc i) = rest i

digit : (d : ℕ) → d < 16 → hex_digit d < 128
digit d h = grind (arith, nat_tests, h)

pair : (b : ℕ) → b < 256 → IsAscii (pair_text b)
pair b h =
    let low : b % 16 < 16 = mod-lt b (lit< tt) in
    let high : b / 16 < 16 = omega (arith, h) in
    more (hex_digit (b / 16)) (hex_digit (b % 16) ∷ []) (digit (b / 16) high) (more (hex_digit (b % 16)) [] (digit (b % 16) low) none)

abbrev AreBytes : Bytes → Type 0
AreBytes [] = Unit {0}
AreBytes (b ∷ bs) = (b < 256) × AreBytes bs

pairs : (bs : Bytes) → AreBytes bs → IsAscii (pairs_text bs)
pairs [] h = none
pairs (b ∷ []) h = pair b h.0
pairs (b ∷ c ∷ bs) h = IsAscii-append (pair_text b ++ codes ":") (pairs_text (c ∷ bs)) (IsAscii-append (pair_text b) (codes ":") (pair b h.0) (more 58 [] (lit< tt) none)) (pairs (c ∷ bs) h.1)

are_bytes : (k n : ℕ) → AreBytes (be_bytes k n)
are_bytes zero n = tt
are_bytes (suc k) n = (mod-lt (n / 256 ^ k) (lit< tt), are_bytes k n)

pub mac_is_text : (mac : ℕ) → IsUtf8 (mac_text mac)
mac_is_text mac = IsUtf8-from_ascii (mac_text mac) (pairs (be_bytes 6 mac) (are_bytes 6 mac))
