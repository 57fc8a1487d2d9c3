-- The frames without tag that frames and packets carry.
use Rattle.std.proofs.Common.{◌≡◌, ◌+◌, ℕ, false, ◌&&◌, ◌==◌, ◌++◌, length, sym, ap, subst, ◌∙◌, arith}
use Rattle.std.specs.Prelude.{slice_index}
use Rattle.std.proofs.lemmas.List.{length-append, get_or-append-add}
use Rattle.vtep_base.specs.Reading.{Bytes}
use Rattle.vtep_rows.proofs.Kept.{le_so}
use Rattle.ether_frames.specs.Frames.{IsFrame, Carries}
use Rattle.vxlan_frames.specs.Packets.{IsInner, IsPacket, tag_at}

at_rest : (addresses rest : Bytes) (i : ℕ) → length addresses ≡ 12 → slice_index (addresses ++ rest) (12 + i) ≡ slice_index rest i
at_rest addresses rest i twelve = ap (λ n. slice_index (addresses ++ rest) (n + i)) (sym twelve) ∙ get_or-append-add addresses rest i 0

module _ (addresses rest : Bytes) (frame : IsFrame addresses rest) where
  count : length (addresses ++ rest) ≡ 12 + length rest
  count = length-append addresses rest ∙ ap (λ n. n + length rest) frame.twelve

  no_tag : tag_at (addresses ++ rest) 12 ≡ false
  no_tag =
      (λ i. (at_rest addresses rest 0 frame.twelve i == 0x81) && (at_rest addresses rest 1 frame.twelve i == 0x00))
      ∙ ap (λ b. b && (slice_index rest 0 == 0x81) && (slice_index rest 1 == 0x00)) (sym (le_so 2 (length rest) frame.has_type))
      ∙ frame.untagged

  pub frame_inner : IsInner (addresses ++ rest)
  frame_inner = record {
    least = let n = count in let m = frame.has_type in omega (arith, n, m);
    most = frame.fits;
    untagged = no_tag;
  }

pub carried_inner : (bytes inner : Bytes) (vlan : ℕ) → Carries bytes vlan inner → IsInner inner
carried_inner bytes inner vlan h = subst IsInner (sym h.3) (frame_inner h.0 h.1 h.2)

pub packet_inner : (bytes inner : Bytes) (src dst vni : ℕ) → IsPacket bytes src dst vni inner → IsInner inner
packet_inner bytes inner src dst vni h = h.9
