-- Addresses of a frame, as bytes and as numbers.
use Rattle.std.proofs.Common.{◌≡◌, ◌≤◌, ◌<◌, ◌+◌, ◌*◌, ◌/◌, ◌%◌, ◌^◌, inl, inr, ℕ, true, false, [], ◌∷◌, ◌++◌, length, take, drop, refl, sym, ap, subst, ◌∙◌, arith}
use Rattle.std.specs.Prelude.{◌==◌, nat_lt, not, slice_index, fold}
use Rattle.std.proofs.lemmas.Bool.Decides.{nat_tests}
use Rattle.std.proofs.lemmas.List.{take-append-drop, length-take-le, length-drop}
use Rattle.vtep_base.specs.Reading.{Bytes}
use Rattle.vtep_base.specs.Addresses.{be}
use Rattle.vtep_base.specs.Addresses as addresses
use Rattle.ether_frames.specs.Frames.{Carries}
use Rattle.forward_program.specs.Hop as hop
use Rattle.forward_program.proofs.HopLaws.{number_same, number_itself}
use Rattle.local_tables.specs.LocalRows.{is_individual}
use Rattle.vtep_rows.proofs.Entries.{both}
use Rattle.vtep_gateway.proofs.FrameInner.{carried_inner}
use Rattle.fabric_world.specs.Logical.{destination, source, is_group}
use Rattle.fabric_world.specs.ReadLines.{AreBytes}

-- ---- bytes

pub split_bytes : (xs ys : Bytes) → AreBytes (xs ++ ys) → AreBytes xs × AreBytes ys
split_bytes [] ys h = (tt, h)
split_bytes (x ∷ xs) ys h = let r = split_bytes xs ys h.1 in ((h.0, r.0), r.1)

join_bytes : (xs ys : Bytes) → AreBytes xs → AreBytes ys → AreBytes (xs ++ ys)
join_bytes [] ys a b = b
join_bytes (x ∷ xs) ys a b = (a.0, join_bytes xs ys a.1 b)

pub inner_bytes : (bytes inner : Bytes) (vlan : ℕ) → Carries bytes vlan inner → AreBytes bytes → AreBytes inner
inner_bytes bytes inner vlan (addresses, rest, frame, is, inl plain) are = subst AreBytes (plain.0 ∙ sym is) are
inner_bytes bytes inner vlan (addresses, rest, frame, is, inr tagged) are =
    let whole = split_bytes (addresses ++ (0x81 ∷ 0x00 ∷ tagged.0)) rest (subst AreBytes tagged.3 are) in
    let front = split_bytes addresses (0x81 ∷ 0x00 ∷ tagged.0) whole.0 in
    subst AreBytes (sym is) (join_bytes addresses rest front.0 whole.1)

-- ---- numbers of bytes

abbrev step : ℕ → ℕ → ℕ
step n b = 256 * n + b

be_apart : (a b : Bytes) (m n : ℕ) → length a ≡ length b → AreBytes a → AreBytes b → fold step m a ≡ fold step n b → (m ≡ n) × (a ≡ b)
be_apart [] [] m n long p q e = (e, refl)
be_apart [] (y ∷ b) m n long p q e = absurd (omega (arith, long))
be_apart (x ∷ a) [] m n long p q e = absurd (omega (arith, long))
be_apart (x ∷ a) (y ∷ b) m n long p q e =
    let small : x < 256 = p.0 in
    let also : y < 256 = q.0 in
    let rest = be_apart a b (256 * m + x) (256 * n + y) (omega (arith, long)) p.1 q.1 e in
    let same : 256 * m + x ≡ 256 * n + y = rest.0 in
    let head : x ≡ y = omega (arith, same, small, also) in
    (omega (arith, same, small, also), λ i. head i ∷ rest.1 i)

-- ---- the six bytes of an address

pub record IsAddress (bytes : Bytes) : Type 0 where
  pub small : be bytes < 2 ^ 48
  pub first : be bytes / 2 ^ 40 ≡ slice_index bytes 0

six : (bytes : Bytes) → length bytes ≡ 6 → AreBytes bytes → IsAddress bytes
six (a ∷ b ∷ c ∷ d ∷ e ∷ f ∷ []) long are = of_six a b c d e f are.0 are.1.0 are.1.1.0 are.1.1.1.0 are.1.1.1.1.0 are.1.1.1.1.1.0
  where
    of_six : (a b c d e f : ℕ) → a < 256 → b < 256 → c < 256 → d < 256 → e < 256 → f < 256 → IsAddress (a ∷ b ∷ c ∷ d ∷ e ∷ f ∷ [])
    of_six a b c d e f p q r s t u = record { small = omega (arith, p, q, r, s, t, u); first = omega (arith, p, q, r, s, t, u) }
six [] long are = absurd (omega (arith, long))
six (a ∷ []) long are = absurd (omega (arith, long))
six (a ∷ b ∷ []) long are = absurd (omega (arith, long))
six (a ∷ b ∷ c ∷ []) long are = absurd (omega (arith, long))
six (a ∷ b ∷ c ∷ d ∷ []) long are = absurd (omega (arith, long))
six (a ∷ b ∷ c ∷ d ∷ e ∷ []) long are = absurd (omega (arith, long))
six (a ∷ b ∷ c ∷ d ∷ e ∷ f ∷ g ∷ bytes) long are = absurd (omega (arith, long))

module _ (bytes inner : Bytes) (vlan : ℕ) (carries : Carries bytes vlan inner) (are : AreBytes bytes) where
  long : 14 ≤ length inner
  long = (carried_inner bytes inner vlan carries).least

  all : AreBytes inner
  all = inner_bytes bytes inner vlan carries are

  first_six : length (destination inner) ≡ 6
  first_six = length-take-le 6 inner (omega (arith, long))

  second_six : length (source inner) ≡ 6
  second_six = length-take-le 6 (drop 6 inner) (omega (arith, long, length-drop 6 inner))

  first_bytes : AreBytes (destination inner)
  first_bytes = (split_bytes (take 6 inner) (drop 6 inner) (subst AreBytes (sym (take-append-drop 6 inner)) all)).0

  behind : AreBytes (drop 6 inner)
  behind = (split_bytes (take 6 inner) (drop 6 inner) (subst AreBytes (sym (take-append-drop 6 inner)) all)).1

  second_bytes : AreBytes (source inner)
  second_bytes = (split_bytes (take 6 (drop 6 inner)) (drop 6 (drop 6 inner)) (subst AreBytes (sym (take-append-drop 6 (drop 6 inner))) behind)).0

  -- addresses of one number are the same bytes
  pub to_itself : (be (destination inner) == hop.source inner) ≡ true → destination inner ≡ source inner
  to_itself e = (be_apart (destination inner) (source inner) 0 0 (first_six ∙ sym second_six) first_bytes second_bytes (number_same (be (destination inner)) (hop.source inner) e)).1

  -- whether an address is a group's, by its number and by its bytes
  pub group_is : addresses.is_group (be (destination inner)) ≡ is_group (destination inner)
  group_is = ap (λ n. n % 2 == 1) (six (destination inner) first_six first_bytes).first

  pub source_group_is : addresses.is_group (be (source inner)) ≡ is_group (source inner)
  source_group_is = ap (λ n. n % 2 == 1) (six (source inner) second_six second_bytes).first

  -- an address of 48 bits
  pub source_single : addresses.is_group (hop.source inner) ≡ false → is_individual (hop.source inner) ≡ true
  source_single alone = both (nat_lt (hop.source inner) (2 ^ 48)) (not (addresses.is_group (hop.source inner))) (below (be (source inner)) (six (source inner) second_six second_bytes).small) (ap not alone)
    where
      below : (n : ℕ) → n < 2 ^ 48 → nat_lt n (2 ^ 48) ≡ true
      below n small = grind (arith, nat_tests, small)

pub to_another : (inner : Bytes) → (be (destination inner) == hop.source inner) ≡ false → destination inner ≡ source inner → ⊥
to_another inner e same =
    let numbers : be (destination inner) ≡ hop.source inner = ap be same in
    let equal : (be (destination inner) == hop.source inner) ≡ true = ap (λ n. be (destination inner) == n) (sym numbers) ∙ number_itself (be (destination inner)) in
    let clash : true ≡ false = sym equal ∙ e in
    cc
