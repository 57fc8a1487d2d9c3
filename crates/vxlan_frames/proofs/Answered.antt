-- What an answer says of packets.
use Rattle.std.proofs.Common.{◌≡◌, ℕ, Result, Ok, Err, MatchResult, IfOk, IsOkAnd, sym, ap, ◌∙◌}
use Rattle.vtep_base.specs.Reading.{Bytes}
use Rattle.vxlan_frames.specs.Packets.{packet_of, IsPacket}
use Rattle.vxlan_frames.specs.declared.PacketFault.{PacketFault}
use Rattle.vxlan_frames.proofs.Parts.{found, read_back}
use Rattle.vxlan_frames.proofs.Passing.{same_ok}

pub found_on_ok : {A F : Type 0} (src dst vni : A → ℕ) (inner : A → Bytes) (fault : F → PacketFault) (bytes : Bytes) (r : Result A F)
    → MatchResult r (λ p. packet_of bytes ≡ Ok (src p, dst p, vni p, inner p)) (λ e. packet_of bytes ≡ Err (fault e))
    → IfOk r (λ p. IsPacket bytes (src p) (dst p) (vni p) (inner p))
found_on_ok src dst vni inner fault bytes (Ok p) e = found bytes (src p) (dst p) (vni p) (inner p) e
found_on_ok src dst vni inner fault bytes (Err x) e = tt

pub only_packet : {A F : Type 0} (src dst vni : A → ℕ) (inner : A → Bytes) (fault : F → PacketFault) (bytes : Bytes) (r : Result A F)
    → MatchResult r (λ p. packet_of bytes ≡ Ok (src p, dst p, vni p, inner p)) (λ e. packet_of bytes ≡ Err (fault e))
    → (s d v : ℕ) (i : Bytes) → IsPacket bytes s d v i → IsOkAnd r (λ p. (src p ≡ s) × (dst p ≡ d) × (vni p ≡ v) × (inner p ≡ i))
only_packet src dst vni inner fault bytes (Ok p) e s d v i is =
    let t = same_ok (src p, dst p, vni p, inner p) (s, d, v, i) (sym e ∙ read_back bytes s d v i is) in
    (ap (λ x. x.0) t, ap (λ x. x.1) t, ap (λ x. x.2) t, ap (λ x. x.3) t)
only_packet src dst vni inner fault bytes (Err x) e s d v i is =
    absurd (let b : ◌≡◌ {A = Result (ℕ × ℕ × ℕ × Bytes) PacketFault} (Err (fault x)) (Ok (s, d, v, i)) = sym e ∙ read_back bytes s d v i is in cc)
