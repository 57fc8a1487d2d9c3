-- Where the text of a message ends, part by part.
use Rattle.std.proofs.Common.{◌≡◌, ℕ, zero, suc, ◌+◌, ◌≤◌, ◌<◌, Bool, true, false, cond, [], ◌∷◌, ◌++◌, length, take, drop, slice_index_or, refl, sym, ap, ◌∙◌, arith}
use Rattle.std.specs.Prelude.{◌==◌}
use Rattle.std.proofs.lemmas.Bool.Decides.{nat_tests}
use Rattle.std.proofs.lemmas.List.{take-append-drop, length-take-le}
use Rattle.vtep_base.specs.Reading.{Bytes}
use Rattle.rpc_framing.specs.declared.FramingKind.TheVariants.{TooDeep, TooLong}
use Rattle.rpc_framing.specs.declared.scan.Cursor.{Cursor}
use Rattle.rpc_framing.specs.declared.scan.End.{End}
use Rattle.rpc_framing.specs.declared.scan.End.TheVariants.{At, Open, Refused}
use Rattle.rpc_framing.specs.Scan.{after_byte, end_from, end_of, at_start, IsScanned}

-- what one byte comes to
abbrev pub step : Bool → Bool → Bool → ℕ → End → End
step deep long closed i rest = cond deep (Refused i TooDeep) (cond long (Refused i TooLong) (cond closed (At (i + 1)) rest))

same : (a b : ℕ) → a ≡ b → (a == b) ≡ true
same a b e = grind (arith, nat_tests)

differ : (a b : ℕ) → (a ≡ b → ⊥) → (a == b) ≡ false
differ a b e = grind (arith, nat_tests)

pub resumes : (limit i : ℕ) (c d : Cursor) (a b : Bytes) → end_from limit c i a ≡ Open d → end_from limit c i (a ++ b) ≡ end_from limit d (i + length a) b
resumes limit i c d [] b e = let n : i ≡ i + 0 = omega arith in ap (λ x. end_from limit x i b) (same_open c d e) ∙ ap (λ k. end_from limit d k b) n
  where
    same_open : (c d : Cursor) → Open c ≡ Open d → c ≡ d
    same_open c d e = cc
resumes limit i c d (x ∷ a) b e = by ((after_byte c x).depth == 65) (i == limit) ((after_byte c x).depth == 0) e (resumes limit (i + 1) (after_byte c x) d a b)
  where
    by : (deep long closed : Bool) → step deep long closed i (end_from limit (after_byte c x) (i + 1) a) ≡ Open d
        → (end_from limit (after_byte c x) (i + 1) a ≡ Open d → end_from limit (after_byte c x) (i + 1) (a ++ b) ≡ end_from limit d (i + 1 + length a) b)
        → step deep long closed i (end_from limit (after_byte c x) (i + 1) (a ++ b)) ≡ end_from limit d (i + suc (length a)) b
    by true long closed e more = absurd (cc)
    by false true closed e more = absurd (cc)
    by false false true e more = absurd (cc)
    by false false false e more = let n : i + 1 + length a ≡ i + suc (length a) = omega arith in more e ∙ ap (λ k. end_from limit d k b) n

-- the byte at a place, and those behind it
pub at_place : (text : Bytes) (place : ℕ) → place < length text → drop place text ≡ slice_index_or text place 0 ∷ drop (place + 1) text
at_place [] place h = absurd (omega arith)
at_place (b ∷ text) zero h = refl
at_place (b ∷ text) (suc place) h = let n : suc place + 1 ≡ suc (place + 1) = omega arith in rw n (at_place text place (omega arith))

-- a text of which so many bytes were looked at
pub goes_on : (limit : ℕ) (text : Bytes) (count : ℕ) (c : Cursor) → IsScanned limit text count c → end_from limit c count (drop count text) ≡ end_of limit text
goes_on limit text count c s =
    let n : 0 + length (take count text) ≡ count = omega (arith, length-take-le count text s.within) in
    sym (ap (end_of limit) (sym (take-append-drop count text)) ∙ resumes limit 0 at_start c (take count text) (drop count text) s.so_far ∙ ap (λ k. end_from limit c k (drop count text)) n)

-- one byte more
pub too_deep : (limit : ℕ) (text : Bytes) (place : ℕ) (c d : Cursor) (all : End) → end_from limit c place (drop place text) ≡ all → place < length text → d ≡ after_byte c (slice_index_or text place 0)
    → d.depth ≡ 65 → Refused place TooDeep ≡ all
too_deep limit text place c d all so_far within is deep =
    let here : end_from limit c place (drop place text) ≡ Refused place TooDeep = rw (at_place text place within, sym is, same d.depth 65 deep) refl in
    sym here ∙ so_far

pub too_long : (limit : ℕ) (text : Bytes) (place : ℕ) (c d : Cursor) (all : End) → end_from limit c place (drop place text) ≡ all → place < length text → d ≡ after_byte c (slice_index_or text place 0)
    → (d.depth ≡ 65 → ⊥) → place ≡ limit → Refused place TooLong ≡ all
too_long limit text place c d all so_far within is flat long =
    let here : end_from limit c place (drop place text) ≡ Refused place TooLong = rw (at_place text place within, sym is, differ d.depth 65 flat, same place limit long) refl in
    sym here ∙ so_far

pub closes : (limit : ℕ) (text : Bytes) (place : ℕ) (c d : Cursor) (all : End) → end_from limit c place (drop place text) ≡ all → place < length text → d ≡ after_byte c (slice_index_or text place 0)
    → (d.depth ≡ 65 → ⊥) → (place ≡ limit → ⊥) → d.depth ≡ 0 → At (place + 1) ≡ all
closes limit text place c d all so_far within is flat short closed =
    let here : end_from limit c place (drop place text) ≡ At (place + 1) = rw (at_place text place within, sym is, differ d.depth 65 flat, differ place limit short, same d.depth 0 closed) refl in
    sym here ∙ so_far

pub one_more : (limit : ℕ) (text : Bytes) (place : ℕ) (c d : Cursor) (all : End) → end_from limit c place (drop place text) ≡ all → place < length text → d ≡ after_byte c (slice_index_or text place 0)
    → (d.depth ≡ 65 → ⊥) → (place ≡ limit → ⊥) → (d.depth ≡ 0 → ⊥) → end_from limit d (place + 1) (drop (place + 1) text) ≡ all
one_more limit text place c d all so_far within is flat short nested =
    let here : end_from limit c place (drop place text) ≡ end_from limit d (place + 1) (drop (place + 1) text) = rw (at_place text place within, sym is, differ d.depth 65 flat, differ place limit short, differ d.depth 0 nested) refl in
    sym here ∙ so_far

-- no byte is left
nothing_left : (text : Bytes) (place : ℕ) → length text ≤ place → drop place text ≡ []
nothing_left [] zero h = refl
nothing_left [] (suc place) h = refl
nothing_left (b ∷ text) zero h = absurd (omega arith)
nothing_left (b ∷ text) (suc place) h = nothing_left text place (omega arith)

pub all_open : (limit : ℕ) (text : Bytes) (place : ℕ) (c : Cursor) (all : End) → end_from limit c place (drop place text) ≡ all → length text ≤ place → Open c ≡ all
all_open limit text place c all so_far h = sym (ap (end_from limit c place) (nothing_left text place h)) ∙ so_far

pub take_all : (text : Bytes) → take (length text) text ≡ text
take_all [] = refl
take_all (b ∷ text) = ap (λ bs. b ∷ bs) (take_all text)

pub all_scanned : (limit : ℕ) (text : Bytes) (c : Cursor) → c.depth ≤ 64 → end_of limit text ≡ Open c → IsScanned limit text (length text) c
all_scanned limit text c shallow e = record { within = omega arith; shallow = shallow; so_far = ap (end_of limit) (take_all text) ∙ e }

-- a text that closes within one limit closes within each that it fits
pub fits : (l m i : ℕ) (c : Cursor) (text : Bytes) (n : ℕ) → end_from l c i text ≡ At n → i + length text ≤ m → end_from m c i text ≡ At n
fits l m i c [] n e h = absurd (cc)
fits l m i c (x ∷ text) n e h =
    rw (differ i m (λ f. omega (arith, f, h)))
    (by ((after_byte c x).depth == 65) (i == l) ((after_byte c x).depth == 0) e (λ f. fits l m (i + 1) (after_byte c x) text n f (omega (arith, h))))
  where
    by : (deep long closed : Bool) → step deep long closed i (end_from l (after_byte c x) (i + 1) text) ≡ At n
        → (end_from l (after_byte c x) (i + 1) text ≡ At n → end_from m (after_byte c x) (i + 1) text ≡ At n)
        → step deep false closed i (end_from m (after_byte c x) (i + 1) text) ≡ At n
    by true long closed e more = absurd (cc)
    by false true closed e more = absurd (cc)
    by false false true e more = e
    by false false false e more = more e
