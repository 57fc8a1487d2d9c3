-- Bytes that are written as digits, part by part.
use Rattle.std.proofs.Common.{◌≡◌, ◌/◌, ◌%◌, ◌<◌, List, [], ◌∷◌, ◌++◌, length, slice_index, codes, refl, sym, ap, ◌∙◌, append_assoc, append-nil, arith}
use Rattle.hex.specs.Hex.{encode_with, encode_lower}
use Rattle.vtep_base.specs.Reading.{Bytes}
use Rattle.vtep_base.specs.Memory.{joined}
use Rattle.fabric_world.specs.Outputs.{hex_word}

encode-append : (digits xs ys : Bytes) → encode_with digits (xs ++ ys) ≡ encode_with digits xs ++ encode_with digits ys
unfolding encode_with
encode-append digits [] ys = refl
encode-append digits (x ∷ xs) ys = ap (λ r. slice_index digits (x / 16) ∷ slice_index digits (x % 16) ∷ r) (encode-append digits xs ys)

pub lower-append : (xs ys : Bytes) → encode_lower (xs ++ ys) ≡ encode_lower xs ++ encode_lower ys
lower-append xs ys = encode-append _ xs ys

-- some bytes are written as their digits alone
pub some_digits : (bytes : Bytes) → 0 < length bytes → hex_word bytes ≡ encode_lower bytes
some_digits [] h = absurd (omega arith)
some_digits (b ∷ bs) h = refl

pub no_digits : (bytes : Bytes) → length bytes ≡ 0 → hex_word bytes ≡ codes "-"
no_digits [] h = refl
no_digits (b ∷ bs) h = absurd (omega arith)

joined-append : (xs ys : List Bytes) → joined (xs ++ ys) ≡ joined xs ++ joined ys
joined-append [] ys = refl
joined-append (x ∷ xs) ys = ap (λ r. x ++ r) (joined-append xs ys) ∙ sym (append_assoc x (joined xs) (joined ys))

-- one more piece, and more pieces, of a line
pub adds : (head : List Bytes) (before a b piece : Bytes) → a ≡ before ++ joined head → b ≡ a ++ piece → b ≡ before ++ joined (head ++ piece ∷ [])
adds head before a b piece first second =
    second ∙ ap (λ t. t ++ piece) first ∙ append_assoc before (joined head) piece ∙ ap (λ t. before ++ (joined head ++ t)) (sym (append-nil piece)) ∙ ap (λ t. before ++ t) (sym (joined-append head (piece ∷ [])))

pub adds_all : (head pieces : List Bytes) (before a b : Bytes) → a ≡ before ++ joined head → b ≡ a ++ joined pieces → b ≡ before ++ joined (head ++ pieces)
adds_all head pieces before a b first second =
    second ∙ ap (λ t. t ++ joined pieces) first ∙ append_assoc before (joined head) (joined pieces) ∙ ap (λ t. before ++ t) (sym (joined-append head pieces))

pub adds_none : (before : Bytes) → before ≡ before ++ joined []
adds_none before = sym (append-nil before)
