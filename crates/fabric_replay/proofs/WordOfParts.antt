-- A frame that is written in two parts, as one word.
use Rattle.std.proofs.Common.{◌≡◌, ◌≤◌, ◌++◌, length, take, drop, sym, ap, ◌∙◌, arith}
use Rattle.std.proofs.lemmas.List.{take-append-drop, length-append}
use Rattle.hex.specs.Hex.{encode_lower}
use Rattle.vtep_base.specs.Reading.{Bytes}
use Rattle.fabric_world.specs.Outputs.{hex_word}
use Rattle.vtep_fabric.proofs.HexText.{lower-append, some_digits}

pub word_of_parts : (inner addresses rest : Bytes) → addresses ≡ take 12 inner → rest ≡ drop 12 inner → length addresses ≡ 12 → 2 ≤ length rest → hex_word addresses ++ hex_word rest ≡ hex_word inner
word_of_parts inner addresses rest first second twelve two =
    let same : addresses ++ rest ≡ inner = ap (λ t. t ++ rest) first ∙ ap (λ t. take 12 inner ++ t) second ∙ take-append-drop 12 inner in
    ap (λ t. t ++ hex_word rest) (some_digits addresses (omega (arith, twelve))) ∙ ap (λ t. encode_lower addresses ++ t) (some_digits rest (omega (arith, two)))
    ∙ sym (lower-append addresses rest) ∙ ap encode_lower same ∙ sym (some_digits inner (omega (arith, twelve, ap length same, length-append addresses rest)))
