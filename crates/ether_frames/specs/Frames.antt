-- What a frame carries (IEEE 802.1Q, one tag at most).
use Rattle.std.specs.Prelude.{◌≡◌, ◌⊎◌, ℕ, ◌+◌, ◌*◌, ◌/◌, ◌%◌, ◌^◌, ◌≤◌, Bool, false, ◌&&◌, nat_lt, nat_le, ◌==◌, if◌then◌else◌, [], ◌∷◌, ◌++◌, length, take, drop, slice_index, Result, Ok, Err}
use Rattle.vtep_base.specs.Reading.{Bytes}
use Rattle.ether_frames.specs.declared.FrameFault.{FrameFault}
use Rattle.ether_frames.specs.declared.FrameKind.{FrameKind}
use Rattle.ether_frames.specs.declared.FrameKind.TheVariants.{Short, SecondTag, Long}

-- the bytes begin with the type of a tag
abbrev pub begins_tag : Bytes → Bool
begins_tag bytes = nat_le 2 (length bytes) && (slice_index bytes 0 == 0x81) && (slice_index bytes 1 == 0x00)

-- two bytes as a number, the high byte first
abbrev pub two_bytes : Bytes → ℕ
two_bytes bytes = 256 * slice_index bytes 0 + slice_index bytes 1

-- twelve bytes of addresses, and the rest from the type on, which is no tag
pub record IsFrame (addresses rest : Bytes) : Type 0 where
  pub twelve : length addresses ≡ 12
  pub has_type : 2 ≤ length rest
  pub untagged : begins_tag rest ≡ false
  pub fits : length (addresses ++ rest) ≤ 9216

-- the bytes carry the frame `inner` on the VLAN: without tag on VLAN 0, or with a tag whose low 12 bits are the VLAN
abbrev pub Carries : Bytes → ℕ → Bytes → Type 0
Carries bytes vlan inner =
    (addresses : Bytes) × (rest : Bytes) × IsFrame addresses rest × (inner ≡ addresses ++ rest)
    × (((bytes ≡ addresses ++ rest) × (vlan ≡ 0))
    ⊎ ((control : Bytes) × (length control ≡ 2) × (vlan ≡ two_bytes control % 2 ^ 12) × (bytes ≡ addresses ++ (0x81 ∷ 0x00 ∷ control) ++ rest)))

-- the one written form
abbrev pub tagged : ℕ → Bytes → Bytes
tagged vlan inner = if vlan == 0 then inner else take 12 inner ++ (0x81 ∷ 0x00 ∷ vlan / 256 ∷ vlan % 256 ∷ []) ++ drop 12 inner

-- ---- the same, computed: the VLAN and the frame that the bytes carry, or the first fault

abbrev pub fault : {A : Type 0} → ℕ → FrameKind → Result A FrameFault
fault offset kind = Err (record { offset = offset; kind = kind })

abbrev pub untagged_frame : Bytes → Result (ℕ × Bytes) FrameFault
untagged_frame bytes = if nat_lt 9216 (length bytes) then fault 9216 Long else Ok (0, bytes)

abbrev pub tagged_frame : Bytes → Result (ℕ × Bytes) FrameFault
tagged_frame bytes =
    if nat_lt (length bytes) 18 then fault (length bytes) Short
    else if begins_tag (drop 16 bytes) then fault 16 SecondTag
    else if nat_lt 9220 (length bytes) then fault 9220 Long
    else Ok (two_bytes (drop 14 bytes) % 2 ^ 12, take 12 bytes ++ drop 16 bytes)

abbrev pub frame_of : Bytes → Result (ℕ × Bytes) FrameFault
frame_of bytes =
    if nat_lt (length bytes) 14 then fault (length bytes) Short
    else if begins_tag (drop 12 bytes) then tagged_frame bytes
    else untagged_frame bytes
