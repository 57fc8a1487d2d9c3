-- What a packet's tests say of its bytes.
use Rattle.std.proofs.Common.{◌≡◌, ℕ, ◌+◌, ◌-◌, ◌/◌, ◌%◌, ◌^◌, ◌≤◌, Bool, true, false, cond, length, take, Result, Ok, Err, refl, arith}
use Rattle.std.specs.Prelude.{slice_index, nat_lt, ◌==◌, ◌||◌, not}
use Rattle.std.specs.Result.{result_and}
use Rattle.std.proofs.lemmas.Bool.Decides.{nat_tests}
use Rattle.vtep_base.specs.Reading.{Bytes}
use Rattle.vxlan_frames.specs.Packets.{word, ones_sum, tag_at, header_length, total_length, udp_length, lengths_checked, header_checked, udp_checked, inner_checked, said, packet_of}
use Rattle.vxlan_frames.specs.declared.PacketFault.{PacketFault}

pub record Passes (bytes : Bytes) : Type 0 where
  pub version : slice_index bytes 0 / 16 ≡ 4
  pub least : 20 ≤ header_length bytes
  pub header_there : header_length bytes ≤ total_length bytes
  pub total_there : total_length bytes ≤ length bytes
  pub checksum : ones_sum (take (header_length bytes) bytes) ≡ 0xffff
  pub whole : word bytes 6 % 2 ^ 14 ≡ 0
  pub protocol : slice_index bytes 9 ≡ 17
  pub port : word bytes (header_length bytes + 2) ≡ 4789
  pub within : header_length bytes + udp_length bytes ≤ total_length bytes
  pub has_vni : slice_index bytes (header_length bytes + 8) / 8 % 2 ≡ 1
  pub enough : 30 ≤ udp_length bytes
  pub untagged : tag_at bytes (header_length bytes + 28) ≡ false
  pub fits : udp_length bytes ≤ 9232

-- a test that passed before an answer did not find its fault
passed : {A : Type 0} (b : Bool) (e : PacketFault) (y : Result A PacketFault) (z : A) → cond b (Err e) y ≡ Ok z → (b ≡ false) × (y ≡ Ok z)
passed true e y z h = absurd (cc)
passed false e y z h = (refl, h)

both_passed : {A B : Type 0} (r : Result A PacketFault) (s : Result B PacketFault) (z : B) → result_and r s ≡ Ok z → (x : A) × (r ≡ Ok x) × (s ≡ Ok z)
both_passed (Ok x) s z h = (x, refl, h)
both_passed (Err e) s z h = absurd (cc)

not_below : (a b : ℕ) → nat_lt a b ≡ false → b ≤ a
not_below a b e = grind (arith, nat_tests)

is_same : (a b : ℕ) → not (a == b) ≡ false → a ≡ b
is_same a b e = grind (arith, nat_tests)

is_odd : (a : ℕ) → (a % 2 == 0) ≡ false → a % 2 ≡ 1
is_odd a e = (let differs : a % 2 ≡ 0 → ⊥ = λ h. grind (arith, nat_tests) in omega arith)

neither : (a b : Bool) → a || b ≡ false → (a ≡ false) × (b ≡ false)
neither true b e = absurd (cc)
neither false b e = (refl, e)

no_more : (h u t : ℕ) → h ≤ t → u ≤ t - h → h + u ≤ t
no_more h u t a b = omega arith

pub same_ok : (x y : ℕ × ℕ × ℕ × Bytes) → ◌≡◌ {A = Result (ℕ × ℕ × ℕ × Bytes) PacketFault} (Ok x) (Ok y) → x ≡ y
same_ok x y e = cc

pub passes : (bytes : Bytes) (p : ℕ × ℕ × ℕ × Bytes) → packet_of bytes ≡ Ok p → Passes bytes × (said bytes ≡ p)
unfolding packet_of
passes bytes p e =
    let a = both_passed (lengths_checked bytes) (result_and (header_checked bytes) (result_and (udp_checked bytes) (result_and (inner_checked bytes) (Ok (said bytes))))) p e in
    let b = both_passed (header_checked bytes) (result_and (udp_checked bytes) (result_and (inner_checked bytes) (Ok (said bytes)))) p a.2 in
    let c = both_passed (udp_checked bytes) (result_and (inner_checked bytes) (Ok (said bytes))) p b.2 in
    let d = both_passed (inner_checked bytes) (Ok (said bytes)) p c.2 in
    let short = passed _ _ _ a.0 a.1 in
    let version = passed _ _ _ a.0 short.1 in
    let header = passed _ _ _ a.0 version.1 in
    let total = passed _ _ _ a.0 header.1 in
    let checksum = passed _ _ _ b.0 b.1 in
    let fragment = passed _ _ _ b.0 checksum.1 in
    let protocol = passed _ _ _ b.0 fragment.1 in
    let room = passed _ _ _ c.0 c.1 in
    let port = passed _ _ _ c.0 room.1 in
    let udp = passed _ _ _ c.0 port.1 in
    let flag = passed _ _ _ d.0 d.1 in
    let enough = passed _ _ _ d.0 flag.1 in
    let tag = passed _ _ _ d.0 enough.1 in
    let fits = passed _ _ _ d.0 tag.1 in
    let there : header_length bytes ≤ total_length bytes = not_below _ _ (neither _ _ total.0).0 in (
      record {
        version = is_same _ _ version.0;
        least = not_below _ _ (neither _ _ header.0).0;
        header_there = there;
        total_there = not_below _ _ (neither _ _ total.0).1;
        checksum = is_same _ _ checksum.0;
        whole = is_same _ _ fragment.0;
        protocol = is_same _ _ protocol.0;
        port = is_same _ _ port.0;
        within = no_more (header_length bytes) (udp_length bytes) (total_length bytes) there (not_below _ _ (neither _ _ udp.0).1);
        has_vni = is_odd _ flag.0;
        enough = not_below _ _ enough.0;
        untagged = tag.0;
        fits = not_below _ _ fits.0;
      },
      same_ok (said bytes) p d.2,
    )

at_most : (a b : ℕ) → b ≤ a → nat_lt a b ≡ false
at_most a b h = grind (arith, nat_tests)

same : (a b : ℕ) → a ≡ b → not (a == b) ≡ false
same a b h = grind (arith, nat_tests)

odd : (a : ℕ) → a % 2 ≡ 1 → (a % 2 == 0) ≡ false
odd a h = grind (arith, nat_tests)

both : (a b : Bool) → a ≡ false → b ≡ false → a || b ≡ false
both a b e f = cc

-- a test that finds no fault
none_found : {A : Type 0} (b : Bool) (e : PacketFault) (y : Result A PacketFault) (z : A) → b ≡ false → y ≡ Ok z → cond b (Err e) y ≡ Ok z
none_found b e y z f h = rw f h

lengths_pass : (bytes : Bytes) → Passes bytes → lengths_checked bytes ≡ Ok tt
lengths_pass bytes p =
    none_found _ _ _ _ (at_most (length bytes) 20 (omega (arith, p.least, p.header_there, p.total_there)))
    (none_found _ _ _ _ (same _ _ p.version)
    (none_found _ _ _ _ (both _ _ (at_most (header_length bytes) 20 p.least) (at_most (length bytes) (header_length bytes) (omega (arith, p.header_there, p.total_there))))
    (none_found _ _ _ _ (both _ _ (at_most (total_length bytes) (header_length bytes) p.header_there) (at_most (length bytes) (total_length bytes) p.total_there)) refl)))

header_passes : (bytes : Bytes) → Passes bytes → header_checked bytes ≡ Ok tt
header_passes bytes p = none_found _ _ _ _ (same _ _ p.checksum) (none_found _ _ _ _ (same _ _ p.whole) (none_found _ _ _ _ (same _ _ p.protocol) refl))

udp_passes : (bytes : Bytes) → Passes bytes → udp_checked bytes ≡ Ok tt
udp_passes bytes p =
    none_found _ _ _ _ (at_most (total_length bytes) (header_length bytes + 8) (omega (arith, p.within, p.enough)))
    (none_found _ _ _ _ (same _ _ p.port)
    (none_found _ _ _ _ (both _ _ (at_most (udp_length bytes) 16 (omega (arith, p.enough))) (at_most (total_length bytes - header_length bytes) (udp_length bytes) (omega (arith, p.within)))) refl))

inner_passes : (bytes : Bytes) → Passes bytes → inner_checked bytes ≡ Ok tt
inner_passes bytes p =
    none_found _ _ _ _ (odd _ p.has_vni)
    (none_found _ _ _ _ (at_most (udp_length bytes) 30 p.enough)
    (none_found _ _ _ _ p.untagged
    (none_found _ _ _ _ (at_most 9232 (udp_length bytes) p.fits) refl)))

pub decoded : (bytes : Bytes) → Passes bytes → packet_of bytes ≡ Ok (said bytes)
unfolding packet_of
decoded bytes p = rw (lengths_pass bytes p, header_passes bytes p, udp_passes bytes p, inner_passes bytes p) refl
