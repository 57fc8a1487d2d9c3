-- The text of an address is ASCII.
use Rattle.std.proofs.Common.{ℕ, zero, suc, ◌/◌, ◌%◌, ◌^◌, ◌<◌, ◌++◌, codes, arith, lit<}
use Rattle.std.proofs.lemmas.Bool.Decides.{nat_tests}
use Rattle.std.proofs.Math.Nat.{mod-lt}
use Rattle.std.proofs.lemmas.Str.{IsUtf8-from_ascii, IsAscii-append}
use Rattle.std.specs.Str.{IsAscii, IsUtf8}
use Rattle.vtep_base.specs.Addresses.{be_bytes, hex_digit, pair_text, pairs_text, mac_text}

digit : (d : ℕ) → d < 16 → hex_digit d < 128
digit d h = grind (arith, nat_tests, h)

pair : (n : ℕ) → IsAscii (pair_text (n % 256))
pair n zero = let small : n % 256 < 256 = mod-lt n (lit< tt) in digit (n % 256 / 16) (omega (arith, small))
pair n (suc zero) = digit (n % 256 % 16) (mod-lt (n % 256) (lit< tt))
pair n (suc (suc i)) = lit< tt

colon : IsAscii (codes ":")
colon zero = lit< tt
colon (suc i) = lit< tt

pairs : (k n : ℕ) → IsAscii (pairs_text (be_bytes k n))
pairs zero n = λ i. lit< tt
pairs (suc zero) n = pair (n / 256 ^ 0)
pairs (suc (suc k)) n =
    IsAscii-append (pair_text (n / 256 ^ suc k % 256)) (codes ":" ++ pairs_text (be_bytes (suc k) n)) (pair (n / 256 ^ suc k)) (IsAscii-append (codes ":") (pairs_text (be_bytes (suc k) n)) colon (pairs (suc k) n))

pub mac_is_text : (mac : ℕ) → IsUtf8 (mac_text mac)
mac_is_text mac = IsUtf8-from_ascii (mac_text mac) (pairs 6 mac)
