-- `0x` and four hexadecimal digits are ASCII.
use Rattle.std.proofs.Common.{◌≡◌, ℕ, zero, suc, ◌<◌, ◌==◌, ◌&&◌, ◌++◌, Bool, true, [], ◌∷◌, length, take, drop, codes, sym, subst, arith, lit<}
use Rattle.std.specs.Prelude.{is_some}
use Rattle.std.specs.Cmp.{first_so, second_so}
use Rattle.std.specs.List.{list_all}
use Rattle.std.specs.Str.{IsAscii, IsUtf8}
use Rattle.std.proofs.lemmas.Bool.Decides.{nat_tests}
use Rattle.std.proofs.lemmas.List.{take-append-drop}
use Rattle.std.proofs.lemmas.Str.{IsUtf8-from_ascii, IsAscii-append}
use Rattle.vtep_base.specs.Addresses.{hex_value}
use Rattle.vtep_base.specs.Reading.{Bytes, same_bytes}
use Rattle.fabric_world.specs.Fields.{is_hex_word}
use Rattle.forward_program.proofs.Unique.{bytes_same}

digit : (c : ℕ) → is_some (hex_value c) ≡ true → c < 128
digit c h = grind (arith, nat_tests, h)

digits : (text : Bytes) → list_all (λ c. is_some (hex_value c)) text ≡ true → IsAscii text
digits [] h i = lit< tt
digits (c ∷ cs) h zero = digit c (first_so (is_some (hex_value c)) (list_all (λ d. is_some (hex_value d)) cs) h)
digits (c ∷ cs) h (suc i) = digits cs (second_so (is_some (hex_value c)) (list_all (λ d. is_some (hex_value d)) cs) h) i

mark : IsAscii (codes "0x")
mark zero = lit< tt
mark (suc zero) = lit< tt
mark (suc (suc i)) = lit< tt

pub hex_word_is_text : (text : Bytes) → is_hex_word text ≡ true → IsUtf8 text
hex_word_is_text text h =
    let all : Bool = list_all (λ c. is_some (hex_value c)) (drop 2 text) in
    let front : take 2 text ≡ codes "0x" = bytes_same (take 2 text) (codes "0x") (first_so (same_bytes (take 2 text) (codes "0x")) (length text == 6) (first_so (same_bytes (take 2 text) (codes "0x") && (length text == 6)) all h)) in
    let rest : IsAscii (drop 2 text) = digits (drop 2 text) (second_so (same_bytes (take 2 text) (codes "0x") && (length text == 6)) all h) in
    subst IsUtf8 (take-append-drop 2 text) (IsUtf8-from_ascii (take 2 text ++ drop 2 text) (IsAscii-append (take 2 text) (drop 2 text) (subst IsAscii (sym front) mark) rest))
