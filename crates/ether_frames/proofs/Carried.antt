-- What is read is what is carried.
use Rattle.std.proofs.Common.{◌≡◌, ◌⊎◌, inl, inr, ℕ, ◌+◌, ◌*◌, ◌%◌, ◌^◌, ◌≤◌, ◌<◌, Bool, true, false, cond, [], ◌∷◌, ◌++◌, length, take, drop, Result, Ok, Err, MatchResult, IfOk, IsOkAnd, ◌/◌, refl, sym, ap, subst, ◌∙◌, arith, append_assoc}
use Rattle.std.specs.Prelude.{nat_lt, ◌==◌, ◌&&◌}
use Rattle.std.proofs.lemmas.Bool.Decides.{nat_tests}
use Rattle.std.proofs.lemmas.List.{take-append-drop, length-take-le, length-drop, length-append, drop_at, take_at, drop-drop}
use Rattle.vtep_base.specs.Reading.{Bytes}
use Rattle.ether_frames.specs.Frames.{Carries, IsFrame, begins_tag, two_bytes, untagged_frame, tagged_frame, frame_of, tagged, fault}
use Rattle.ether_frames.specs.declared.FrameFault.{FrameFault}

chosen : {A : Type 0} (b : Bool) (x y z : A) → cond b x y ≡ z → ((b ≡ true) × (x ≡ z)) ⊎ ((b ≡ false) × (y ≡ z))
chosen true x y z e = inl (refl, e)
chosen false x y z e = inr (refl, e)

-- a test that passed before an answer did not
passed : {A : Type 0} (b : Bool) (e : FrameFault) (y : Result A FrameFault) (z : A) → cond b (Err e) y ≡ Ok z → (b ≡ false) × (y ≡ Ok z)
passed true e y z h = absurd (cc)
passed false e y z h = (refl, h)

not_below : (a b : ℕ) → nat_lt a b ≡ false → b ≤ a
not_below a b e = grind (arith, nat_tests)

is_below : (a b : ℕ) → b ≤ a → nat_lt a b ≡ false
is_below a b h = grind (arith, nat_tests)

two : (a b : Bool) → a && b ≡ true → (a ≡ true) × (b ≡ true)
two true true e = (refl, refl)
two true false e = absurd (cc)
two false b e = absurd (cc)

same : (a b : ℕ) → (a == b) ≡ true → a ≡ b
same a b e = grind (arith, nat_tests)

-- bytes that begin with a tag's type
tag_in : (bytes : Bytes) → begins_tag bytes ≡ true → (rest : Bytes) × (bytes ≡ 0x81 ∷ 0x00 ∷ rest)
tag_in [] e = absurd (cc)
tag_in (a ∷ []) e = absurd (cc)
tag_in (a ∷ b ∷ rest) e =
    let high : a ≡ 0x81 = same a 0x81 (two _ _ (two _ _ e).0).1 in
    let low : b ≡ 0x00 = same b 0x00 (two _ _ e).1 in
    (rest, ap (λ x. x ∷ b ∷ rest) high ∙ ap (λ y. 0x81 ∷ y ∷ rest) low)

two_of_front : (bytes : Bytes) → 2 ≤ length bytes → two_bytes (take 2 bytes) ≡ two_bytes bytes
two_of_front [] h = absurd (omega arith)
two_of_front (a ∷ []) h = absurd (omega arith)
two_of_front (a ∷ b ∷ rest) h = refl

same_ok : (x y : ℕ × Bytes) → ◌≡◌ {A = Result (ℕ × Bytes) FrameFault} (Ok x) (Ok y) → x ≡ y
same_ok x y e = cc

untagged_carried : (bytes inner : Bytes) (v : ℕ) → 14 ≤ length bytes → begins_tag (drop 12 bytes) ≡ false → untagged_frame bytes ≡ Ok (v, inner) → Carries bytes v inner
untagged_carried bytes inner v enough no_tag e =
    let p = passed (nat_lt 9216 (length bytes)) _ _ _ e in
    let short : length bytes ≤ 9216 = not_below 9216 (length bytes) p.0 in
    let parts : take 12 bytes ++ drop 12 bytes ≡ bytes = take-append-drop 12 bytes in
    let value : (v ≡ 0) × (inner ≡ bytes) = (let t = same_ok (0, bytes) (v, inner) p.1 in (sym (ap (λ x. x.0) t), sym (ap (λ x. x.1) t))) in (
      take 12 bytes,
      drop 12 bytes,
      record {
        twelve = length-take-le 12 bytes (omega arith);
        has_type = omega (arith, length-drop 12 bytes);
        untagged = no_tag;
        fits = rw parts short;
      },
      value.1 ∙ sym parts,
      inl (sym parts, value.0),
    )

tagged_carried : (bytes inner : Bytes) (v : ℕ) → begins_tag (drop 12 bytes) ≡ true → tagged_frame bytes ≡ Ok (v, inner) → Carries bytes v inner
tagged_carried bytes inner v tag e =
    let p = passed (nat_lt (length bytes) 18) _ _ _ e in
    let q = passed (begins_tag (drop 16 bytes)) _ _ _ p.1 in
    let r = passed (nat_lt 9220 (length bytes)) _ _ _ q.1 in
    let enough : 18 ≤ length bytes = not_below (length bytes) 18 p.0 in
    let short : length bytes ≤ 9220 = not_below 9220 (length bytes) r.0 in
    let t = same_ok (two_bytes (drop 14 bytes) % 2 ^ 12, take 12 bytes ++ drop 16 bytes) (v, inner) r.1 in
    let behind = tag_in (drop 12 bytes) tag in
    let control : Bytes = take 2 (drop 14 bytes) in
    let at_14 : drop 14 bytes ≡ behind.0 = sym (drop-drop 2 12 bytes) ∙ ap (drop 2) behind.1 in
    let at_16 : drop 16 bytes ≡ drop 2 (drop 14 bytes) = sym (drop-drop 2 14 bytes) in
    let whole : bytes ≡ take 12 bytes ++ (0x81 ∷ 0x00 ∷ control) ++ drop 16 bytes =
    sym (take-append-drop 12 bytes)
    ∙ ap (λ x. take 12 bytes ++ x) (behind.1 ∙ ap (λ r. 0x81 ∷ 0x00 ∷ r) (sym at_14 ∙ sym (take-append-drop 2 (drop 14 bytes)) ∙ ap (λ x. control ++ x) (sym at_16)))
    ∙ sym (append_assoc (take 12 bytes) (0x81 ∷ 0x00 ∷ control) (drop 16 bytes)) in (
      take 12 bytes,
      drop 16 bytes,
      record {
        twelve = length-take-le 12 bytes (omega arith);
        has_type = omega (arith, length-drop 16 bytes);
        untagged = q.0;
        fits = omega (arith, length-append (take 12 bytes) (drop 16 bytes), length-take-le 12 bytes (omega arith), length-drop 16 bytes);
      },
      sym (ap (λ x. x.1) t),
      inr (
        control,
        length-take-le 2 (drop 14 bytes) (omega (arith, length-drop 14 bytes)),
        sym (ap (λ x. x.0) t) ∙ ap (λ n. n % 2 ^ 12) (sym (two_of_front (drop 14 bytes) (omega (arith, length-drop 14 bytes)))),
        whole,
      ),
    )

pub carried : (bytes inner : Bytes) (v : ℕ) → frame_of bytes ≡ Ok (v, inner) → Carries bytes v inner
carried bytes inner v e =
    let p = passed (nat_lt (length bytes) 14) _ _ _ e in
    let enough : 14 ≤ length bytes = not_below (length bytes) 14 p.0 in
    elim (chosen (begins_tag (drop 12 bytes)) _ _ _ p.1) [
      | inl h ↦ tagged_carried bytes inner v h.0 h.1
      | inr h ↦ untagged_carried bytes inner v enough h.0 h.1
    ]

-- ---- and what is carried is read

read_untagged : (addresses rest : Bytes) → IsFrame addresses rest → frame_of (addresses ++ rest) ≡ Ok (0, addresses ++ rest)
read_untagged addresses rest f =
    let long : length (addresses ++ rest) ≡ length addresses + length rest = length-append addresses rest in
    let behind : drop 12 (addresses ++ rest) ≡ rest = drop_at addresses rest 12 f.twelve in
    let enough : nat_lt (length (addresses ++ rest)) 14 ≡ false = is_below (length (addresses ++ rest)) 14 (omega (arith, f.twelve, f.has_type)) in
    let no_tag : begins_tag (drop 12 (addresses ++ rest)) ≡ false = ap begins_tag behind ∙ f.untagged in
    let short : nat_lt 9216 (length (addresses ++ rest)) ≡ false = is_below 9216 (length (addresses ++ rest)) f.fits in
    rw (enough, no_tag, short) refl

tag_test : (rest : Bytes) → begins_tag (0x81 ∷ 0x00 ∷ rest) ≡ true
tag_test rest = grind (arith, nat_tests)

two_of_joined : (control rest : Bytes) → length control ≡ 2 → two_bytes (control ++ rest) ≡ two_bytes control
two_of_joined [] rest e = absurd (omega arith)
two_of_joined (a ∷ []) rest e = absurd (omega arith)
two_of_joined (a ∷ b ∷ c) rest e = refl

read_tagged : (addresses control rest : Bytes) → IsFrame addresses rest → length control ≡ 2
    → frame_of (addresses ++ (0x81 ∷ 0x00 ∷ control) ++ rest) ≡ Ok (two_bytes control % 2 ^ 12, addresses ++ rest)
read_tagged addresses control rest f two =
    let bytes : Bytes = addresses ++ (0x81 ∷ 0x00 ∷ control) ++ rest in
    let grouped : bytes ≡ addresses ++ ((0x81 ∷ 0x00 ∷ control) ++ rest) = append_assoc addresses (0x81 ∷ 0x00 ∷ control) rest in
    let at_12 : drop 12 bytes ≡ 0x81 ∷ 0x00 ∷ control ++ rest = ap (drop 12) grouped ∙ drop_at addresses _ 12 f.twelve in
    let at_14 : drop 14 bytes ≡ control ++ rest = sym (drop-drop 2 12 bytes) ∙ ap (drop 2) at_12 in
    let at_16 : drop 16 bytes ≡ rest = sym (drop-drop 2 14 bytes) ∙ ap (drop 2) at_14 ∙ drop_at control rest 2 two in
    let front : take 12 bytes ≡ addresses = ap (take 12) grouped ∙ take_at addresses _ 12 f.twelve in
    let long : length bytes ≡ 16 + length rest =
    omega (arith, f.twelve, two, length-append (addresses ++ (0x81 ∷ 0x00 ∷ control)) rest, length-append addresses (0x81 ∷ 0x00 ∷ control)) in
    let inner : length (addresses ++ rest) ≡ length addresses + length rest = length-append addresses rest in
    let enough : nat_lt (length bytes) 14 ≡ false = is_below (length bytes) 14 (omega (arith, f.has_type, long)) in
    let is_tag : begins_tag (drop 12 bytes) ≡ true = ap begins_tag at_12 ∙ tag_test (control ++ rest) in
    let whole : nat_lt (length bytes) 18 ≡ false = is_below (length bytes) 18 (omega (arith, f.has_type, long)) in
    let no_second : begins_tag (drop 16 bytes) ≡ false = ap begins_tag at_16 ∙ f.untagged in
    let short : nat_lt 9220 (length bytes) ≡ false = is_below 9220 (length bytes) (omega (arith, f.twelve, f.fits, inner, long)) in
    let vlan : two_bytes (drop 14 bytes) ≡ two_bytes control = ap two_bytes at_14 ∙ two_of_joined control rest two in
    let R : Type 0 = Result (ℕ × Bytes) FrameFault in
    let value : ◌≡◌ {A = R} (Ok (two_bytes (drop 14 bytes) % 2 ^ 12, take 12 bytes ++ drop 16 bytes)) (Ok (two_bytes control % 2 ^ 12, addresses ++ rest)) =
    ap (λ (n : ℕ). let r : R = Ok (n % 2 ^ 12, take 12 bytes ++ drop 16 bytes) in r) vlan
    ∙ ap (λ (a : Bytes). let r : R = Ok (two_bytes control % 2 ^ 12, a ++ drop 16 bytes) in r) front
    ∙ ap (λ (b : Bytes). let r : R = Ok (two_bytes control % 2 ^ 12, addresses ++ b) in r) at_16 in
    rw (enough, is_tag, whole, no_second, short) value

pub read_back : (bytes inner : Bytes) (v : ℕ) → Carries bytes v inner → frame_of bytes ≡ Ok (v, inner)
read_back bytes inner v (addresses, rest, f, is, inl untagged) =
    ap frame_of untagged.0 ∙ read_untagged addresses rest f ∙ ap (λ (x : ℕ × Bytes). let r : Result (ℕ × Bytes) FrameFault = Ok x in r) (cc)
read_back bytes inner v (addresses, rest, f, is, inr t) =
    ap frame_of t.3 ∙ read_tagged addresses t.0 rest f t.1 ∙ ap (λ (x : ℕ × Bytes). let r : Result (ℕ × Bytes) FrameFault = Ok x in r) (cc)

small : (bytes inner : Bytes) (v : ℕ) → Carries bytes v inner → v < 2 ^ 12
small bytes inner v (addresses, rest, f, is, inl untagged) = omega (arith, untagged.1)
small bytes inner v (addresses, rest, f, is, inr t) = omega (arith, t.2)

-- the written form carries what it was made of
written_carries : (addresses rest : Bytes) (v : ℕ) (b : Bool) → IsFrame addresses rest → v < 2 ^ 12 → (v == 0) ≡ b → Carries (tagged v (addresses ++ rest)) v (addresses ++ rest)
written_carries addresses rest v true f less e = (addresses, rest, f, refl, inl (rw e refl, same v 0 e))
written_carries addresses rest v false f less e =
    let front : take 12 (addresses ++ rest) ≡ addresses = take_at addresses rest 12 f.twelve in
    let behind : drop 12 (addresses ++ rest) ≡ rest = drop_at addresses rest 12 f.twelve in
    let two_parts : 256 * (v / 256) + v % 256 ≡ v = omega arith in
    let low : v ≡ (256 * (v / 256) + v % 256) % 2 ^ 12 = omega arith in
    (addresses, rest, f, refl, inr ((v / 256) ∷ (v % 256) ∷ [], refl, low, rw (e, front, behind) refl))

pub written_read : (bytes inner : Bytes) (v : ℕ) → Carries bytes v inner → frame_of (tagged v inner) ≡ Ok (v, inner)
written_read bytes inner v c =
    let less : v < 2 ^ 12 = small bytes inner v c in
    read_back (tagged v inner) inner v (subst (λ i. Carries (tagged v i) v i) (sym c.3) (written_carries c.0 c.1 v (v == 0) c.2 less refl))

-- what an answer says of what is carried
pub found_on_ok : {A F : Type 0} (vlan : A → ℕ) (inner : A → Bytes) (fault : F → FrameFault) (bytes : Bytes) (r : Result A F)
    → MatchResult r (λ f. frame_of bytes ≡ Ok (vlan f, inner f)) (λ e. frame_of bytes ≡ Err (fault e)) → IfOk r (λ f. Carries bytes (vlan f) (inner f))
found_on_ok vlan inner fault bytes (Ok f) e = carried bytes (inner f) (vlan f) e
found_on_ok vlan inner fault bytes (Err x) e = tt

pub only_carried : {A F : Type 0} (vlan : A → ℕ) (inner : A → Bytes) (fault : F → FrameFault) (bytes : Bytes) (r : Result A F)
    → MatchResult r (λ f. frame_of bytes ≡ Ok (vlan f, inner f)) (λ e. frame_of bytes ≡ Err (fault e))
    → (v : ℕ) (i : Bytes) → Carries bytes v i → IsOkAnd r (λ f. (vlan f ≡ v) × (inner f ≡ i))
only_carried vlan inner fault bytes (Ok f) e v i c = let t = same_ok (vlan f, inner f) (v, i) (sym e ∙ read_back bytes i v c) in (ap (λ x. x.0) t, ap (λ x. x.1) t)
only_carried vlan inner fault bytes (Err x) e v i c = absurd (let b : ◌≡◌ {A = Result (ℕ × Bytes) FrameFault} (Err (fault x)) (Ok (v, i)) = sym e ∙ read_back bytes i v c in cc)
