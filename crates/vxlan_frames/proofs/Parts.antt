-- The parts of a packet, and the tests of its bytes.
use Rattle.std.proofs.Common.{◌≡◌, ℕ, ◌+◌, ◌-◌, ◌*◌, ◌/◌, ◌%◌, ◌^◌, ◌≤◌, ◌<◌, ◌++◌, length, take, drop, Result, Ok, refl, sym, ap, subst, ◌∙◌, arith, append_assoc}
use Rattle.std.specs.Prelude.{slice_index}
use Rattle.std.proofs.lemmas.List.{take-append-drop, length-take-le, length-drop, length-append, drop-take}
use Rattle.vtep_base.specs.Reading.{Bytes}
use Rattle.vxlan_frames.specs.Packets.{word, three_bytes, four_bytes, ones_sum, tag_at, header_length, total_length, udp_length, inner_of, said, packet_of, IsPacket, IsIpHeader, AreTunnelHeaders, IsInner}
use Rattle.vxlan_frames.proofs.Places.{Laid, laid, piece}
use Rattle.vxlan_frames.proofs.Passing.{Passes, passes, decoded}

same_word : (x y : Bytes) (i j : ℕ) → slice_index x i ≡ slice_index y j → slice_index x (i + 1) ≡ slice_index y (j + 1) → word x i ≡ word y j
same_word x y i j e f = omega (arith, e, f)

-- what the tests look at stands in the parts
record Reads (bytes header udp vxlan inner : Bytes) (h : ℕ) : Type 0 where
  first : slice_index bytes 0 ≡ slice_index header 0
  total : word bytes 2 ≡ word header 2
  flags : word bytes 6 ≡ word header 6
  protocol : slice_index bytes 9 ≡ slice_index header 9
  src : four_bytes bytes 12 ≡ four_bytes header 12
  dst : four_bytes bytes 16 ≡ four_bytes header 16
  port : word bytes (h + 2) ≡ word udp 2
  size : word bytes (h + 4) ≡ word udp 4
  flag : slice_index bytes (h + 8) ≡ slice_index vxlan 0
  network : three_bytes bytes (h + 12) ≡ three_bytes vxlan 4
  tag : 14 ≤ length inner → tag_at bytes (h + 28) ≡ tag_at inner 12

reads : (bytes header options udp vxlan inner : Bytes) (h : ℕ) → Laid bytes header options udp vxlan inner → h ≡ length (header ++ options) → Reads bytes header udp vxlan inner h
reads bytes header options udp vxlan inner h l e =
    let head_word : (i : ℕ) → i < 19 → word bytes i ≡ word header i = λ i less. same_word bytes header i i (l.head i (omega arith)) (l.head (i + 1) (omega arith)) in
    let udp_word : (i : ℕ) → i < 7 → word bytes (h + i) ≡ word udp i = λ i less. same_word bytes udp (h + i) i (l.tunnel (h + i) i (omega arith) (omega arith)) (l.tunnel (h + i + 1) (i + 1) (omega arith) (omega arith)) in
    record {
      first = l.head 0 (omega arith);
      total = head_word 2 (omega arith);
      flags = head_word 6 (omega arith);
      protocol = l.head 9 (omega arith);
      src = omega (arith, head_word 12 (omega arith), head_word 14 (omega arith));
      dst = omega (arith, head_word 16 (omega arith), head_word 18 (omega arith));
      port = udp_word 2 (omega arith);
      size = udp_word 4 (omega arith);
      flag = l.network (h + 8) 0 (omega arith) (omega arith);
      network = omega (
        arith,
        l.network (h + 12) 4 (omega arith) (omega arith),
        l.network (h + 12 + 1) 5 (omega arith) (omega arith),
        l.network (h + 12 + 2) 6 (omega arith) (omega arith),
      );
      tag = λ long. same_tag bytes inner (h + 28) 12 (l.frame (h + 28) 12 (omega arith) (omega arith)) (l.frame (h + 28 + 1) 13 (omega arith) (omega arith));
    }
  where
    same_tag : (x y : Bytes) (i j : ℕ) → slice_index x i ≡ slice_index y j → slice_index x (i + 1) ≡ slice_index y (j + 1) → tag_at x i ≡ tag_at y j
    same_tag x y i j e f = rw (e, f) refl

pub read_back : (bytes : Bytes) (src dst vni : ℕ) (inner : Bytes) → IsPacket bytes src dst vni inner → packet_of bytes ≡ Ok (src, dst, vni, inner)
read_back bytes src dst vni inner (header, options, udp, vxlan, padding, after, is, ip, t, f) =
    let l : Laid bytes header options udp vxlan inner = laid bytes header options udp vxlan inner (padding ++ after) is ip.size t.udp_size t.vxlan_size in
    let long : length bytes ≡ length (header ++ options) + (8 + (8 + (length inner + (length padding + length after)))) =
    ap length is ∙ omega (
      arith,
      t.udp_size,
      t.vxlan_size,
      length-append (header ++ options) (udp ++ (vxlan ++ (inner ++ (padding ++ after)))),
      length-append udp (vxlan ++ (inner ++ (padding ++ after))),
      length-append vxlan (inner ++ (padding ++ after)),
      length-append inner (padding ++ after),
      length-append padding after,
    ) in
    let at_least : length (header ++ options) ≡ length header + length options = length-append header options in
    let h : header_length bytes ≡ length (header ++ options) = ap (λ b. 4 * (b % 16)) (l.head 0 (omega arith)) ∙ ip.with_options in
    let r : Reads bytes header udp vxlan inner (header_length bytes) = reads bytes header options udp vxlan inner (header_length bytes) l h in
    let u : udp_length bytes ≡ 16 + length inner = r.size ∙ t.udp_length in
    let total : total_length bytes ≡ length (header ++ options) + 16 + length inner + length padding = r.total ∙ ip.total_length in
    let p : Passes bytes = record {
      version = ap (λ b. b / 16) r.first ∙ ip.version;
      least = omega (arith, h, at_least, ip.size);
      header_there = omega (arith, h, total);
      total_there = omega (arith, long, total);
      checksum = ap (λ n. ones_sum (take n bytes)) h ∙ ap ones_sum l.front ∙ ip.checksum;
      whole = ap (λ n. n % 2 ^ 14) r.flags ∙ ip.whole;
      protocol = r.protocol ∙ ip.protocol;
      port = r.port ∙ t.port;
      within = omega (arith, h, u, total);
      has_vni = ap (λ b. b / 8 % 2) r.flag ∙ t.has_vni;
      enough = omega (arith, u, f.least);
      untagged = r.tag f.least ∙ f.untagged;
      fits = omega (arith, u, f.most);
    } in
    let a : four_bytes bytes 12 ≡ src = r.src ∙ ip.source in
    let b : four_bytes bytes 16 ≡ dst = r.dst ∙ ip.destination in
    let n : three_bytes bytes (header_length bytes + 12) ≡ vni = r.network ∙ t.network in
    let i : inner_of bytes ≡ inner = l.carried (header_length bytes + 16) (header_length bytes + udp_length bytes) (omega (arith, h)) (omega (arith, u)) in
    decoded bytes p ∙ all_four (four_bytes bytes 12) src (four_bytes bytes 16) dst (three_bytes bytes (header_length bytes + 12)) vni (inner_of bytes) inner a b n i
  where
    all_four : {F : Type 0} (a b c d e f : ℕ) (x y : Bytes) → a ≡ b → c ≡ d → e ≡ f → x ≡ y → ◌≡◌ {A = Result (ℕ × ℕ × ℕ × Bytes) F} (Ok (a, c, e, x)) (Ok (b, d, f, y))
    all_four a b c d e f x y p q r s = cc

-- ---- and what passes the tests has such parts

record Headers (bytes header options udp vxlan inner padding : Bytes) : Type 0 where
  ip : IsIpHeader header options (length (header ++ options) + 16 + length inner + length padding) (four_bytes bytes 12) (four_bytes bytes 16)
  tunnel : AreTunnelHeaders udp vxlan (three_bytes bytes (header_length bytes + 12)) (length inner)
  frame : IsInner inner

headers_found : (bytes header options udp vxlan inner padding rest : Bytes) → bytes ≡ (header ++ options) ++ (udp ++ (vxlan ++ (inner ++ rest))) → Passes bytes
    → length header ≡ 20 → length (header ++ options) ≡ header_length bytes → length udp ≡ 8 → length vxlan ≡ 8 → 16 + length inner ≡ udp_length bytes
    → header_length bytes + udp_length bytes + length padding ≡ total_length bytes → Headers bytes header options udp vxlan inner padding
headers_found bytes header options udp vxlan inner padding rest is p size h udp_size vxlan_size u t =
    let l : Laid bytes header options udp vxlan inner = laid bytes header options udp vxlan inner rest is size udp_size vxlan_size in
    let r : Reads bytes header udp vxlan inner (header_length bytes) = reads bytes header options udp vxlan inner (header_length bytes) l (sym h) in
    record {
      ip = record {
        size = size;
        version = ap (λ b. b / 16) (sym r.first) ∙ p.version;
        with_options = ap (λ b. 4 * (b % 16)) (sym r.first) ∙ sym h;
        total_length = sym r.total ∙ sym t ∙ omega (arith, h, u);
        whole = ap (λ n. n % 2 ^ 14) (sym r.flags) ∙ p.whole;
        protocol = sym r.protocol ∙ p.protocol;
        checksum = ap ones_sum (sym l.front) ∙ ap (λ n. ones_sum (take n bytes)) h ∙ p.checksum;
        source = sym r.src;
        destination = sym r.dst;
      };
      tunnel = record {
        udp_size = udp_size;
        port = sym r.port ∙ p.port;
        udp_length = sym r.size ∙ sym u;
        vxlan_size = vxlan_size;
        has_vni = ap (λ b. b / 8 % 2) (sym r.flag) ∙ p.has_vni;
        network = sym r.network;
      };
      frame = record {
        least = omega (arith, u, p.enough);
        most = omega (arith, u, p.fits);
        untagged = sym (r.tag (omega (arith, u, p.enough))) ∙ p.untagged;
      };
    }

parts_found : (bytes : Bytes) → Passes bytes → IsPacket bytes (four_bytes bytes 12) (four_bytes bytes 16) (three_bytes bytes (header_length bytes + 12)) (inner_of bytes)
parts_found bytes p =
    let h : ℕ = header_length bytes in
    let u : ℕ = udp_length bytes in
    let t : ℕ = total_length bytes in
    let least : 20 ≤ h = p.least in
    let enough : 30 ≤ u = p.enough in
    let within : h + u ≤ t = p.within in
    let there : t ≤ length bytes = p.total_there in
    let header : Bytes = take 20 bytes in
    let options : Bytes = take (h - 20) (drop 20 bytes) in
    let udp : Bytes = take (h + 8 - h) (drop h bytes) in
    let vxlan : Bytes = take (h + 16 - (h + 8)) (drop (h + 8) bytes) in
    let inner : Bytes = inner_of bytes in
    let padding : Bytes = take (t - (h + u)) (drop (h + u) bytes) in
    let after : Bytes = drop t bytes in
    let carried : inner ≡ take (h + u - (h + 16)) (drop (h + 16) bytes) =
    ap (λ n. drop (h + 16) (take n bytes)) (omega arith) ∙ drop-take (h + 16) (h + u - (h + 16)) bytes in
    let whole : bytes ≡ (header ++ options) ++ (udp ++ (vxlan ++ (inner ++ (padding ++ after)))) =
    sym (take-append-drop 20 bytes)
    ∙ ap (λ r. header ++ r) (piece bytes 20 h least ∙ ap (λ r. options ++ r) (piece bytes h (h + 8) (omega arith)
    ∙ ap (λ r. udp ++ r) (piece bytes (h + 8) (h + 16) (omega arith)
    ∙ ap (λ r. vxlan ++ r) (piece bytes (h + 16) (h + u) (omega arith)
    ∙ ap (λ i. i ++ drop (h + u) bytes) (sym carried) ∙ ap (λ r. inner ++ r) (piece bytes (h + u) t within)))))
    ∙ sym (append_assoc header options (udp ++ (vxlan ++ (inner ++ (padding ++ after))))) in
    let size : length header ≡ 20 = length-take-le 20 bytes (omega arith) in
    let options_size : length options ≡ h - 20 = length-take-le (h - 20) (drop 20 bytes) (omega (arith, length-drop 20 bytes)) in
    let header_size : length (header ++ options) ≡ h = omega (arith, length-append header options) in
    let udp_size : length udp ≡ h + 8 - h = length-take-le (h + 8 - h) (drop h bytes) (omega (arith, length-drop h bytes)) in
    let vxlan_size : length vxlan ≡ h + 16 - (h + 8) = length-take-le (h + 16 - (h + 8)) (drop (h + 8) bytes) (omega (arith, length-drop (h + 8) bytes)) in
    let inner_size : length inner ≡ h + u - (h + 16) = ap length carried ∙ length-take-le (h + u - (h + 16)) (drop (h + 16) bytes) (omega (arith, length-drop (h + 16) bytes)) in
    let padding_size : length padding ≡ t - (h + u) = length-take-le (t - (h + u)) (drop (h + u) bytes) (omega (arith, length-drop (h + u) bytes)) in
    let found : Headers bytes header options udp vxlan inner padding =
    headers_found bytes header options udp vxlan inner padding (padding ++ after) whole p size header_size (omega arith) (omega arith) (omega arith) (omega arith) in
    (header, options, udp, vxlan, padding, after, whole, found.ip, found.tunnel, found.frame)

pub found : (bytes : Bytes) (src dst vni : ℕ) (inner : Bytes) → packet_of bytes ≡ Ok (src, dst, vni, inner) → IsPacket bytes src dst vni inner
found bytes src dst vni inner e =
    let both = passes bytes (src, dst, vni, inner) e in
    let v : said bytes ≡ (src, dst, vni, inner) = both.1 in
    subst (λ (w : ℕ × ℕ × ℕ × Bytes). IsPacket bytes w.0 w.1 w.2 w.3) v (parts_found bytes both.0)
