-- The forms of the text types: what their texts mean, and the one text that is printed.
use Rattle.std.specs.Prelude.{ℕ, ◌+◌, ◌-◌, ◌*◌, ◌/◌, ◌%◌, ◌^◌, Bool, not, ◌&&◌, ◌||◌, nat_lt, nat_le, ◌==◌, if◌then◌else◌, [], ◌∷◌, ◌++◌, length, Option, Some, None, Result, codes, decimal}
use Rattle.std.specs.List.{list_all}
use Rattle.std.specs.Result.{result_ok}
use Rattle.vtep_base.specs.Reading.{Bytes, read_on}
use Rattle.vtep_base.specs.declared.numbers.Number.{Number}
use Rattle.vtep_base.specs.declared.numbers.Octets.{Octets}
use Rattle.vtep_base.specs.declared.numbers.Octets.TheVariants.{Zero, One, Two, Three}
use Rattle.vtep_base.specs.declared.numbers.Dotted.{Dotted}

abbrev pub is_digit : ℕ → Bool
is_digit c = nat_le 48 c && nat_le c 57

-- ---- decimal numbers up to some number, without a needless leading zero

-- the value of the digits so far and one more: none where no number up to `most` begins so
abbrev pub digit_after : ℕ → Option ℕ → ℕ → Option ℕ
digit_after most None c = if is_digit c && nat_le (c - 48) most then Some (c - 48) else None
digit_after most (Some v) c = if is_digit c && not (v == 0) && nat_le (10 * v + (c - 48)) most then Some (10 * v + (c - 48)) else None

abbrev pub with_value : Number → Option ℕ → Option Number
with_value s None = None
with_value s (Some v) = Some (record s { value = Some v })

abbrev pub number_step : Number → ℕ → Option Number
number_step s c = with_value s (digit_after s.most s.value c)

abbrev pub number_done : Number → Option ℕ
number_done s = s.value

abbrev pub read_number : ℕ → Bytes → Result ℕ ℕ
read_number most text = read_on number_step number_done 0 (record { most = most; value = None }) text

-- the number that the text is, where it is one up to `most`
abbrev pub number_upto : ℕ → Bytes → Option ℕ
number_upto most text = result_ok (read_number most text)

abbrev pub vni_of : Bytes → Option ℕ
vni_of = number_upto 16777215

abbrev pub vlan_of : Bytes → Option ℕ
vlan_of = number_upto 4095

-- ---- dotted decimal (RFC 791's addresses as they are written)

abbrev pub with_octet : Dotted → Option ℕ → Option Dotted
with_octet s None = None
with_octet s (Some v) = Some (record s { octet = Some v })

-- the dot ends an octet that is not the last
abbrev pub after_dot : Octets → Option ℕ → Option Dotted
after_dot finished None = None
after_dot Zero (Some a) = Some (record { finished = One a; octet = None })
after_dot (One a) (Some b) = Some (record { finished = Two a b; octet = None })
after_dot (Two a b) (Some c) = Some (record { finished = Three a b c; octet = None })
after_dot (Three a b c) (Some d) = None

abbrev pub dotted_step : Dotted → ℕ → Option Dotted
dotted_step s c = if c == 46 then after_dot s.finished s.octet else with_octet s (digit_after 255 s.octet c)

abbrev pub address : Octets → Option ℕ → Option ℕ
address (Three a b c) (Some d) = Some (256 * (256 * (256 * a + b) + c) + d)
address finished octet = None

abbrev pub dotted_done : Dotted → Option ℕ
dotted_done s = address s.finished s.octet

abbrev pub read_ipv4 : Bytes → Result ℕ ℕ
read_ipv4 text = read_on dotted_step dotted_done 0 (record { finished = Zero; octet = None }) text

abbrev pub ipv4_of : Bytes → Option ℕ
ipv4_of text = result_ok (read_ipv4 text)

abbrev pub ipv4_text : ℕ → Bytes
ipv4_text ip = decimal (ip / 2 ^ 24) ++ codes "." ++ decimal (ip / 2 ^ 16 % 256) ++ codes "." ++ decimal (ip / 2 ^ 8 % 256) ++ codes "." ++ decimal (ip % 256)

-- ---- names: 1 to 64 letters, digits, `_`, `-` and `.`

abbrev pub is_name_byte : ℕ → Bool
is_name_byte c = is_digit c || (nat_le 97 c && nat_le c 122) || (nat_le 65 c && nat_le c 90) || (c == 95) || (c == 45) || (c == 46)

abbrev pub name_step : Bytes → ℕ → Option Bytes
name_step front c = if is_name_byte c && nat_lt (length front) 64 then Some (front ++ c ∷ []) else None

abbrev pub name_done : Bytes → Option Bytes
name_done front = if length front == 0 then None else Some front

abbrev pub read_name : Bytes → Result Bytes ℕ
read_name text = read_on name_step name_done 0 [] text

abbrev pub name_of : Bytes → Option Bytes
name_of text = result_ok (read_name text)

-- the form itself
abbrev pub is_name : Bytes → Bool
is_name text = nat_le 1 (length text) && nat_le (length text) 64 && list_all is_name_byte text
