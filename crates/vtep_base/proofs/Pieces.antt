-- Places among pieces.
use Rattle.std.proofs.Common.{◌≡◌, ℕ, zero, suc, ◌+◌, ◌<◌, ◌≤◌, List, [], ◌∷◌, ◌++◌, length, take, drop, get_or, refl, ap, sym, ◌∙◌, append_assoc, append-nil, add-one, arith}
use Rattle.std.proofs.lemmas.List.{take_all, take-append-drop, drop-drop}
use Rattle.std.proofs.Math.Seq.{take-add}
use Rattle.std.proofs.Math.ListN.{drop_of_length-le}
use Rattle.vtep_base.specs.Reading.{Bytes}
use Rattle.vtep_base.specs.Memory.{joined, left_at, taken_at}

pub from_start : (pieces : List Bytes) → left_at pieces 0 0 ≡ joined pieces
from_start [] = refl
from_start (p ∷ ps) = refl

pub none_taken : (pieces : List Bytes) → taken_at pieces 0 0 ≡ []
none_taken [] = refl
none_taken (p ∷ ps) = refl

left_suc : (d : Bytes) (pieces : List Bytes) (place offset : ℕ) → length (get_or pieces place d) ≤ offset → left_at pieces (suc place) 0 ≡ left_at pieces place offset
left_suc d [] place offset h = refl
left_suc d (p ∷ ps) zero offset h = from_start ps ∙ sym (ap (λ r. r ++ joined ps) (drop_of_length-le p h))
left_suc d (p ∷ ps) (suc place) offset h = left_suc d ps place offset h

taken_suc : (d : Bytes) (pieces : List Bytes) (place offset : ℕ) → length (get_or pieces place d) ≤ offset → taken_at pieces (suc place) 0 ≡ taken_at pieces place offset
taken_suc d [] place offset h = refl
taken_suc d (p ∷ ps) zero offset h = ap (λ r. p ++ r) (none_taken ps) ∙ append-nil p ∙ sym (take_all offset p h)
taken_suc d (p ∷ ps) (suc place) offset h = ap (λ r. p ++ r) (taken_suc d ps place offset h)

pub left_next : (d : Bytes) (pieces : List Bytes) (place offset : ℕ) → length (get_or pieces place d) ≤ offset → left_at pieces (place + 1) 0 ≡ left_at pieces place offset
left_next d pieces place offset h = rw add-one (left_suc d pieces place offset h)

pub taken_next : (d : Bytes) (pieces : List Bytes) (place offset : ℕ) → length (get_or pieces place d) ≤ offset → taken_at pieces (place + 1) 0 ≡ taken_at pieces place offset
taken_next d pieces place offset h = rw add-one (taken_suc d pieces place offset h)

-- nothing is left behind all pieces
pub none_left : (pieces : List Bytes) (place offset : ℕ) → length pieces ≤ place → left_at pieces place offset ≡ []
none_left [] place offset h = refl
none_left (p ∷ ps) zero offset h = absurd (omega arith)
none_left (p ∷ ps) (suc place) offset h = none_left ps place offset (omega arith)

-- n bytes more of a piece
pub left_more : (d : Bytes) (pieces : List Bytes) (place offset n : ℕ) → place < length pieces → left_at pieces place offset ≡ take n (drop offset (get_or pieces place d)) ++ left_at pieces place (offset + n)
left_more d [] place offset n h = absurd (omega arith)
left_more d (p ∷ ps) zero offset n h = ap (λ r. r ++ joined ps) (sym (take-append-drop n (drop offset p)) ∙ ap (λ r. take n (drop offset p) ++ r) (drop-drop n offset p)) ∙ append_assoc (take n (drop offset p)) (drop (offset + n) p) (joined ps)
left_more d (p ∷ ps) (suc place) offset n h = left_more d ps place offset n (omega arith)

pub taken_more : (d : Bytes) (pieces : List Bytes) (place offset n : ℕ) → place < length pieces → taken_at pieces place (offset + n) ≡ taken_at pieces place offset ++ take n (drop offset (get_or pieces place d))
taken_more d [] place offset n h = absurd (omega arith)
taken_more d (p ∷ ps) zero offset n h = take-add offset n p
taken_more d (p ∷ ps) (suc place) offset n h = ap (λ r. p ++ r) (taken_more d ps place offset n (omega arith)) ∙ sym (append_assoc p (taken_at ps place offset) (take n (drop offset (get_or ps place d))))
