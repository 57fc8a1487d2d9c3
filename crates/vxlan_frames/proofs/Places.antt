-- Where the parts of a packet stand.
use Rattle.std.proofs.Common.{◌≡◌, ℕ, ◌+◌, ◌-◌, ◌≤◌, ◌<◌, ◌++◌, length, drop, take, refl, sym, ap, ◌∙◌, arith, append_assoc}
use Rattle.std.specs.Prelude.{slice_index}
use Rattle.std.proofs.Math.ListN.{get_or-append}
use Rattle.std.proofs.Math.Seq.{drop-append_seam, take-append_seam}
use Rattle.std.proofs.lemmas.List.{get_or-append-add, take-append-drop, length-append, drop-drop, drop-take}
use Rattle.vtep_base.specs.Reading.{Bytes}

pub record Laid (bytes header options udp vxlan inner : Bytes) : Type 0 where
  pub head : (i : ℕ) → i < 20 → slice_index bytes i ≡ slice_index header i
  pub tunnel : (k i : ℕ) → i < 8 → k ≡ length (header ++ options) + i → slice_index bytes k ≡ slice_index udp i
  pub network : (k i : ℕ) → i < 8 → k ≡ length (header ++ options) + 8 + i → slice_index bytes k ≡ slice_index vxlan i
  pub frame : (k i : ℕ) → i < length inner → k ≡ length (header ++ options) + 16 + i → slice_index bytes k ≡ slice_index inner i
  pub front : take (length (header ++ options)) bytes ≡ header ++ options
  pub carried : (k n : ℕ) → k ≡ length (header ++ options) + 16 → n ≡ k + length inner → drop k (take n bytes) ≡ inner

at_part : (front part behind : Bytes) (i : ℕ) → i < length part → slice_index (front ++ (part ++ behind)) (length front + i) ≡ slice_index part i
at_part front part behind i h = get_or-append-add front (part ++ behind) i 0 ∙ get_or-append part behind 0 i h

-- a part behind a front of a known length
at_place : (bytes front part behind : Bytes) (n k i : ℕ) → bytes ≡ front ++ (part ++ behind) → length front ≡ n → i < length part → k ≡ n + i → slice_index bytes k ≡ slice_index part i
at_place bytes front part behind n k i is long h e =
    let here : k ≡ length front + i = omega arith in
    ap (λ b. slice_index b k) is ∙ ap (slice_index (front ++ (part ++ behind))) here ∙ at_part front part behind i h

part_there : (bytes front part behind : Bytes) (k n : ℕ) → bytes ≡ front ++ (part ++ behind) → k ≡ length front → n ≡ k + length part → drop k (take n bytes) ≡ part
part_there bytes front part behind k n is e f =
    let ends : n ≡ k + length part = f in
    ap (λ m. drop k (take m bytes)) ends ∙ drop-take k (length part) bytes
    ∙ ap (λ m. take (length part) (drop m bytes)) e
    ∙ ap (λ b. take (length part) (drop (length front) b)) is
    ∙ ap (take (length part)) (drop-append_seam front (part ++ behind))
    ∙ take-append_seam part behind

pub laid : (bytes header options udp vxlan inner rest : Bytes) → bytes ≡ (header ++ options) ++ (udp ++ (vxlan ++ (inner ++ rest)))
    → length header ≡ 20 → length udp ≡ 8 → length vxlan ≡ 8 → Laid bytes header options udp vxlan inner
laid bytes header options udp vxlan inner rest is twenty eight also_eight =
    let whole : Bytes = header ++ options in
    let h : ℕ = length whole in
    let at_head : bytes ≡ header ++ (options ++ (udp ++ (vxlan ++ (inner ++ rest)))) = is ∙ append_assoc header options (udp ++ (vxlan ++ (inner ++ rest))) in
    let at_vxlan : bytes ≡ (whole ++ udp) ++ (vxlan ++ (inner ++ rest)) = is ∙ sym (append_assoc whole udp (vxlan ++ (inner ++ rest))) in
    let at_inner : bytes ≡ ((whole ++ udp) ++ vxlan) ++ (inner ++ rest) = at_vxlan ∙ sym (append_assoc (whole ++ udp) vxlan (inner ++ rest)) in
    let to_vxlan : length (whole ++ udp) ≡ h + 8 = omega (arith, length-append whole udp) in
    let to_inner : length ((whole ++ udp) ++ vxlan) ≡ h + 16 = omega (arith, length-append (whole ++ udp) vxlan, to_vxlan) in
    record {
      head = λ i less. ap (λ b. slice_index b i) at_head ∙ get_or-append header (options ++ (udp ++ (vxlan ++ (inner ++ rest)))) 0 i (omega arith);
      tunnel = λ k i less e. at_place bytes whole udp (vxlan ++ (inner ++ rest)) h k i is refl (omega arith) e;
      network = λ k i less e. at_place bytes (whole ++ udp) vxlan (inner ++ rest) (h + 8) k i at_vxlan to_vxlan (omega arith) e;
      frame = λ k i less e. at_place bytes ((whole ++ udp) ++ vxlan) inner rest (h + 16) k i at_inner to_inner less e;
      front = ap (take h) is ∙ take-append_seam whole (udp ++ (vxlan ++ (inner ++ rest)));
      carried = λ k n e f. part_there bytes ((whole ++ udp) ++ vxlan) inner rest k n at_inner (omega (arith, to_inner)) f;
    }

-- ---- cutting bytes into parts

pub piece : (bytes : Bytes) (a b : ℕ) → a ≤ b → drop a bytes ≡ take (b - a) (drop a bytes) ++ drop b bytes
piece bytes a b h =
    let there : a + (b - a) ≡ b = omega arith in
    sym (take-append-drop (b - a) (drop a bytes)) ∙ ap (λ r. take (b - a) (drop a bytes) ++ r) (drop-drop (b - a) a bytes ∙ ap (λ n. drop n bytes) (omega arith))
