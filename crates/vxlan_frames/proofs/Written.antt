-- The written form is a packet.
use Rattle.std.proofs.Common.{◌≡◌, ℕ, ◌+◌, ◌*◌, ◌/◌, ◌%◌, ◌^◌, ◌≤◌, ◌<◌, List, [], ◌++◌, length, take, drop, Result, Ok, Err, OnOk, refl, sym, ap, subst, ◌∙◌, append_assoc, arith}
use Rattle.std.proofs.lemmas.List.{append-nil, take-append-drop}
use Rattle.vtep_base.specs.Reading.{Bytes}
use Rattle.vxlan_frames.specs.Packets.{summed_header, udp_header, vxlan_header, source_port, canon, packet_of, IsPacket, IsIpHeader, AreTunnelHeaders, IsInner}
use Rattle.vxlan_frames.proofs.Sums.{header_summed}
use Rattle.vxlan_frames.proofs.Parts.{read_back}

header_is : (total src dst : ℕ) → total < 2 ^ 16 → src < 2 ^ 32 → dst < 2 ^ 32 → IsIpHeader (summed_header total src dst) [] total src dst
header_is total src dst a b c = record {
  size = refl;
  version = refl;
  with_options = refl;
  total_length = (let e : 256 * (total / 256 % 256) + total % 256 ≡ total = omega arith in e);
  whole = refl;
  protocol = refl;
  checksum = header_summed total src dst;
  source = (let e : 65536 * (256 * (src / 16777216 % 256) + src / 65536 % 256) + (256 * (src / 256 % 256) + src % 256) ≡ src = omega arith in e);
  destination = (let e : 65536 * (256 * (dst / 16777216 % 256) + dst / 65536 % 256) + (256 * (dst / 256 % 256) + dst % 256) ≡ dst = omega arith in e);
}

tunnel_is : (port vni size : ℕ) → vni < 2 ^ 24 → size ≤ 9216 → AreTunnelHeaders (udp_header port size) (vxlan_header vni) vni size
tunnel_is port vni size a b = record {
  udp_size = refl;
  port = refl;
  udp_length = (let e : 256 * ((16 + size) / 256 % 256) + (16 + size) % 256 ≡ 16 + size = omega arith in e);
  vxlan_size = refl;
  has_vni = refl;
  network = (
      let e : 256 * (256 * ((256 * vni) / 16777216 % 256) + (256 * vni) / 65536 % 256) + (256 * vni) / 256 % 256 ≡ vni = omega arith in e
      );
}

pub written_is_packet : (src dst vni : ℕ) (inner : Bytes) → src < 2 ^ 32 → dst < 2 ^ 32 → vni < 2 ^ 24 → IsInner inner → IsPacket (canon src dst vni inner) src dst vni inner
unfolding canon
written_is_packet src dst vni inner a b c f =
    let most : length inner ≤ 9216 = f.most in
    let header : Bytes = summed_header (36 + length inner) src dst in
    let udp : Bytes = udp_header (source_port inner) (length inner) in
    let vxlan : Bytes = vxlan_header vni in
    let total : 36 + length inner ≡ 20 + 16 + length inner + 0 = omega arith in
    let whole : header ++ (udp ++ (vxlan ++ inner)) ≡ (header ++ []) ++ (udp ++ (vxlan ++ (inner ++ ([] ++ [])))) =
    ap (λ i. header ++ (udp ++ (vxlan ++ i))) (sym (append-nil inner)) in (
      header,
      [],
      udp,
      vxlan,
      [],
      [],
      whole,
      subst (λ n. IsIpHeader header [] n src dst) total (header_is (36 + length inner) src dst (omega arith) a b),
      tunnel_is (source_port inner) vni (length inner) c most,
      f,
    )

pub written_decoded : (src dst vni : ℕ) (inner : Bytes) → src < 2 ^ 32 → dst < 2 ^ 32 → vni < 2 ^ 24 → IsInner inner → packet_of (canon src dst vni inner) ≡ Ok (src, dst, vni, inner)
written_decoded src dst vni inner a b c f = read_back (canon src dst vni inner) src dst vni inner (written_is_packet src dst vni inner a b c f)

-- the parts that are appended
pub parts_written : (src dst vni size port : ℕ) (inner header udp vxlan addresses rest : Bytes) → size ≡ length inner → port ≡ source_port inner
    → header ≡ summed_header (36 + size) src dst → udp ≡ udp_header port size → vxlan ≡ vxlan_header vni → addresses ≡ take 12 inner → rest ≡ drop 12 inner
    → header ++ (udp ++ (vxlan ++ (addresses ++ (rest ++ [])))) ≡ canon src dst vni inner
unfolding canon
parts_written src dst vni size port inner header udp vxlan addresses rest s p a b c d e =
    let joined : addresses ++ (rest ++ []) ≡ inner = ap (λ r. addresses ++ r) (append-nil rest) ∙ ap (λ x. x ++ rest) d ∙ ap (λ x. take 12 inner ++ x) e ∙ take-append-drop 12 inner in
    let first : header ≡ summed_header (36 + length inner) src dst = a ∙ ap (λ n. summed_header (36 + n) src dst) s in
    let second : udp ≡ udp_header (source_port inner) (length inner) = b ∙ ap (λ n. udp_header n size) p ∙ ap (udp_header (source_port inner)) s in
    ap (λ i. header ++ (udp ++ (vxlan ++ i))) joined
    ∙ ap (λ x. x ++ (udp ++ (vxlan ++ inner))) first
    ∙ ap (λ x. summed_header (36 + length inner) src dst ++ (x ++ (vxlan ++ inner))) second
    ∙ ap (λ x. summed_header (36 + length inner) src dst ++ (udp_header (source_port inner) (length inner) ++ (x ++ inner))) c

pub on_ok : {T E P Q : Type 0} (r : Result T E) → (P → Q) → OnOk r P → OnOk r Q
on_ok (Ok x) f p = f p
on_ok (Err e) f p = tt

-- parts that are added one after another are those of the written form
pub added : (before header udp vxlan addresses rest written one two three four all : List ℕ)
    → one ≡ before ++ header → two ≡ one ++ udp → three ≡ two ++ vxlan → four ≡ three ++ addresses → all ≡ four ++ rest
    → header ++ (udp ++ (vxlan ++ (addresses ++ (rest ++ [])))) ≡ written → all ≡ before ++ written
added before header udp vxlan addresses rest written one two three four all a b c d e parts =
    let joined : header ++ (udp ++ (vxlan ++ (addresses ++ rest))) ≡ written = ap (λ r. header ++ (udp ++ (vxlan ++ (addresses ++ r)))) (sym (append-nil rest)) ∙ parts in
    rw (e, d, c, b, a) (simp append_assoc (ap (λ x. before ++ x) joined))
