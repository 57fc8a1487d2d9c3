-- Worked packets.
use Rattle.std.proofs.Common.{◌≡◌, ℕ, [], ◌∷◌, ◌++◌, Ok, Err, refl}
use Rattle.vtep_base.specs.Reading.{Bytes}
use Rattle.vxlan_frames.specs.Packets.{canon, packet_of}
use Rattle.vxlan_frames.specs.declared.PacketKind.TheVariants.{NoVni, Checksum}

-- a broadcast without data
abbrev frame : Bytes
frame = 0xff ∷ 0xff ∷ 0xff ∷ 0xff ∷ 0xff ∷ 0xff ∷ 0x02 ∷ 0 ∷ 0 ∷ 0 ∷ 0 ∷ 0x01 ∷ 0x88 ∷ 0xb5 ∷ []

-- the packet that carries it in network 100 from 10.0.0.1 to 10.0.0.2, with a low byte of the checksum and flags
abbrev packet : ℕ → ℕ → Bytes
packet low flags =
    (0x45 ∷ 0 ∷ 0 ∷ 0x32 ∷ 0 ∷ 0 ∷ 0x40 ∷ 0 ∷ 0x40 ∷ 0x11 ∷ 0x26 ∷ low ∷ 10 ∷ 0 ∷ 0 ∷ 1 ∷ 10 ∷ 0 ∷ 0 ∷ 2 ∷ [])
    ++ (0xc7 ∷ 0x3a ∷ 0x12 ∷ 0xb5 ∷ 0 ∷ 0x1e ∷ 0 ∷ 0 ∷ [])
    ++ (flags ∷ 0 ∷ 0 ∷ 0 ∷ 0 ∷ 0 ∷ 100 ∷ 0 ∷ [])
    ++ frame

written : canon 0x0a000001 0x0a000002 100 frame ≡ packet 0xb9 8
unfolding canon
written = refl

decoded : packet_of (packet 0xb9 8) ≡ Ok (0x0a000001, 0x0a000002, 100, frame)
unfolding packet_of
decoded = refl

no_network : packet_of (packet 0xb9 0) ≡ Err (record { offset = 28; kind = NoVni })
unfolding packet_of
no_network = refl

wrong_checksum : packet_of (packet 0xba 8) ≡ Err (record { offset = 10; kind = Checksum })
unfolding packet_of
wrong_checksum = refl
