-- Ethernet addresses: six pairs of hexadecimal digits of either case, joined by `:`. An address is the number of its 48 bits.
use Rattle.std.specs.Prelude.{ℕ, zero, suc, ◌+◌, ◌-◌, ◌*◌, ◌/◌, ◌%◌, ◌^◌, Bool, ◌&&◌, nat_lt, nat_le, ◌==◌, if◌then◌else◌, [], ◌∷◌, ◌++◌, fold, map, Option, Some, None, Result, codes}
use Rattle.std.specs.Result.{result_ok}
use Rattle.vtep_base.specs.Reading.{Bytes, read_on}
use Rattle.vtep_base.specs.Texts.{is_digit}

-- the number that the bytes spell, the high byte first
abbrev pub be : Bytes → ℕ
be bytes = fold (λ n b. 256 * n + b) 0 bytes

-- a number in so many bytes, the high byte first
abbrev pub be_bytes : ℕ → ℕ → Bytes
be_bytes zero n = []
be_bytes (suc k) n = n / 256 ^ k % 256 ∷ be_bytes k n

abbrev pub hex_value : ℕ → Option ℕ
hex_value c =
    if is_digit c then Some (c - 48)
    else if nat_le 97 c && nat_le c 102 then Some (c - 87)
    else if nat_le 65 c && nat_le c 70 then Some (c - 55)
    else None

abbrev pub hex_digit : ℕ → ℕ
hex_digit d = if nat_lt d 10 then 48 + d else 87 + d

abbrev pub pair_text : ℕ → Bytes
pair_text b = hex_digit (b / 16) ∷ hex_digit (b % 16) ∷ []

-- what is read of an address: how many bytes of its text are left, and the number of the digits so far
abbrev pub Pairs : Type 0
Pairs = ℕ × ℕ

abbrev pub with_digit : ℕ → ℕ → Option ℕ → Option Pairs
with_digit left number None = None
with_digit left number (Some d) = Some (left, 16 * number + d)

-- every third byte is a colon
abbrev pub mac_step : Pairs → ℕ → Option Pairs
mac_step s c =
    if s.0 == 0 then None
    else if s.0 % 3 == 0 then (if c == 58 then Some (s.0 - 1, s.1) else None)
    else with_digit (s.0 - 1) s.1 (hex_value c)

abbrev pub mac_done : Pairs → Option ℕ
mac_done s = if s.0 == 0 then Some s.1 else None

abbrev pub read_mac : Bytes → Result ℕ ℕ
read_mac text = read_on mac_step mac_done 0 (17, 0) text

abbrev pub mac_of : Bytes → Option ℕ
mac_of text = result_ok (read_mac text)

-- the pairs of the bytes, joined by colons
abbrev pub pairs_text : Bytes → Bytes
pairs_text [] = []
pairs_text (b ∷ []) = pair_text b
pairs_text (b ∷ c ∷ bs) = pair_text b ++ codes ":" ++ pairs_text (c ∷ bs)

abbrev pub mac_text : ℕ → Bytes
mac_text mac = pairs_text (be_bytes 6 mac)

-- the lowest bit of the first byte
abbrev pub is_group : ℕ → Bool
is_group mac = mac / 2 ^ 40 % 2 == 1

-- the text with its capital letters made small
abbrev pub lower : Bytes → Bytes
lower text = map (λ c. if nat_le 65 c && nat_le c 90 then c + 32 else c) text
