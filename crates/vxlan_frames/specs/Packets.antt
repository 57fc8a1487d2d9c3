-- VXLAN packets (RFC 7348 section 5) in UDP (RFC 768) in IPv4 (RFC 791).
use Rattle.std.specs.Prelude.{◌≡◌, ℕ, ◌+◌, ◌-◌, ◌*◌, ◌/◌, ◌%◌, ◌^◌, ◌≤◌, Bool, false, not, ◌&&◌, ◌||◌, nat_lt, ◌==◌, if◌then◌else◌, List, [], ◌∷◌, ◌++◌, length, fold, take, drop, slice_index, sum, Result, Ok, Err}
use Rattle.std.specs.Result.{result_and}
use Rattle.std.specs.Int.{w16, w32, to_be_bytes}
use Rattle.vtep_base.specs.Reading.{Bytes}
use Rattle.vxlan_frames.specs.declared.PacketFault.{PacketFault}
use Rattle.vxlan_frames.specs.declared.PacketKind.{PacketKind}
use Rattle.vxlan_frames.specs.declared.PacketKind.TheVariants.{Short, Version, HeaderLength, TotalLength, Checksum, Fragment, Protocol, Port, UdpLength, NoVni, InnerShort, InnerTag, InnerLong}

-- two, three and four bytes at an offset as a number, the high byte first
abbrev pub word : Bytes → ℕ → ℕ
word bytes at = 256 * slice_index bytes at + slice_index bytes (at + 1)

abbrev pub three_bytes : Bytes → ℕ → ℕ
three_bytes bytes at = 256 * word bytes at + slice_index bytes (at + 2)

abbrev pub four_bytes : Bytes → ℕ → ℕ
four_bytes bytes at = 65536 * word bytes at + word bytes (at + 2)

-- the 16-bit words that the bytes spell
abbrev pub words : Bytes → List ℕ
words [] = []
words (a ∷ []) = (256 * a) ∷ []
words (a ∷ b ∷ bytes) = (256 * a + b) ∷ words bytes

-- a sum of 16 bits to which its carry is added again
abbrev pub ones_add : ℕ → ℕ → ℕ
ones_add a b = (a + b) / 2 ^ 16 + (a + b) % 2 ^ 16

-- the ones' complement sum of the words
abbrev pub ones_sum : Bytes → ℕ
ones_sum bytes = fold ones_add 0 (words bytes)

-- an IPv4 header and its options
pub record IsIpHeader (header options : Bytes) (total src dst : ℕ) : Type 0 where
  pub size : length header ≡ 20
  pub version : slice_index header 0 / 16 ≡ 4
  pub with_options : 4 * (slice_index header 0 % 16) ≡ length (header ++ options)
  pub total_length : word header 2 ≡ total
  pub whole : word header 6 % 2 ^ 14 ≡ 0
  pub protocol : slice_index header 9 ≡ 17
  pub checksum : ones_sum (header ++ options) ≡ 0xffff
  pub source : four_bytes header 12 ≡ src
  pub destination : four_bytes header 16 ≡ dst

-- a UDP header and a VXLAN header before a frame of so many bytes
pub record AreTunnelHeaders (udp vxlan : Bytes) (vni size : ℕ) : Type 0 where
  pub udp_size : length udp ≡ 8
  pub port : word udp 2 ≡ 4789
  pub udp_length : word udp 4 ≡ 16 + size
  pub vxlan_size : length vxlan ≡ 8
  pub has_vni : slice_index vxlan 0 / 8 % 2 ≡ 1
  pub network : three_bytes vxlan 4 ≡ vni

-- the type at an offset is that of a tag
abbrev pub tag_at : Bytes → ℕ → Bool
tag_at bytes at = (slice_index bytes at == 0x81) && (slice_index bytes (at + 1) == 0x00)

-- a frame without tag of a size that is carried
pub record IsInner (inner : Bytes) : Type 0 where
  pub least : 14 ≤ length inner
  pub most : length inner ≤ 9216
  pub untagged : tag_at inner 12 ≡ false

-- the bytes are a packet: its headers, the inner frame, what the total length has beyond it, and what stands after
abbrev pub IsPacket : Bytes → ℕ → ℕ → ℕ → Bytes → Type 0
IsPacket bytes src dst vni inner =
    (header : Bytes) × (options : Bytes) × (udp : Bytes) × (vxlan : Bytes) × (padding : Bytes) × (after : Bytes)
    × (bytes ≡ (header ++ options) ++ (udp ++ (vxlan ++ (inner ++ (padding ++ after)))))
    × IsIpHeader header options (length (header ++ options) + 16 + length inner + length padding) src dst
    × AreTunnelHeaders udp vxlan vni (length inner)
    × IsInner inner

-- ---- the written form

abbrev pub ip_header : ℕ → ℕ → ℕ → ℕ → Bytes
ip_header total checksum src dst =
    (0x45 ∷ 0 ∷ []) ++ to_be_bytes w16 total ++ (0 ∷ 0 ∷ 0x40 ∷ 0 ∷ 64 ∷ 17 ∷ []) ++ to_be_bytes w16 checksum ++ to_be_bytes w32 src ++ to_be_bytes w32 dst

-- the header with the checksum that makes its sum 0xffff
abbrev pub summed_header : ℕ → ℕ → ℕ → Bytes
summed_header total src dst = ip_header total (0xffff - ones_sum (ip_header total 0 src dst)) src dst

abbrev pub source_port : Bytes → ℕ
source_port inner = 49152 + sum (take 14 inner) % 16384

abbrev pub udp_header : ℕ → ℕ → Bytes
udp_header port size = to_be_bytes w16 port ++ to_be_bytes w16 4789 ++ to_be_bytes w16 (16 + size) ++ (0 ∷ 0 ∷ [])

abbrev pub vxlan_header : ℕ → Bytes
vxlan_header vni = (0x08 ∷ 0 ∷ 0 ∷ 0 ∷ []) ++ to_be_bytes w32 (256 * vni)

unfoldable pub canon : ℕ → ℕ → ℕ → Bytes → Bytes
canon src dst vni inner =
    summed_header (36 + length inner) src dst ++ (udp_header (source_port inner) (length inner) ++ (vxlan_header vni ++ inner))

-- ---- the same, computed: what the packet says, or the first fault

abbrev pub fault : {A : Type 0} → ℕ → PacketKind → Result A PacketFault
fault offset kind = Err (record { offset = offset; kind = kind })

abbrev pub header_length : Bytes → ℕ
header_length bytes = 4 * (slice_index bytes 0 % 16)

abbrev pub total_length : Bytes → ℕ
total_length bytes = word bytes 2

abbrev pub udp_length : Bytes → ℕ
udp_length bytes = word bytes (header_length bytes + 4)

abbrev pub lengths_checked : Bytes → Result (Unit {0}) PacketFault
lengths_checked bytes =
    if nat_lt (length bytes) 20 then fault (length bytes) Short
    else if not (slice_index bytes 0 / 16 == 4) then fault 0 Version
    else if nat_lt (header_length bytes) 20 || nat_lt (length bytes) (header_length bytes) then fault 0 HeaderLength
    else if nat_lt (total_length bytes) (header_length bytes) || nat_lt (length bytes) (total_length bytes) then fault 2 TotalLength
    else Ok tt

abbrev pub header_checked : Bytes → Result (Unit {0}) PacketFault
header_checked bytes =
    if not (ones_sum (take (header_length bytes) bytes) == 0xffff) then fault 10 Checksum
    else if not (word bytes 6 % 2 ^ 14 == 0) then fault 6 Fragment
    else if not (slice_index bytes 9 == 17) then fault 9 Protocol
    else Ok tt

abbrev pub udp_checked : Bytes → Result (Unit {0}) PacketFault
udp_checked bytes =
    if nat_lt (total_length bytes) (header_length bytes + 8) then fault (total_length bytes) Short
    else if not (word bytes (header_length bytes + 2) == 4789) then fault (header_length bytes + 2) Port
    else if nat_lt (udp_length bytes) 16 || nat_lt (total_length bytes - header_length bytes) (udp_length bytes) then fault (header_length bytes + 4) UdpLength
    else Ok tt

abbrev pub inner_checked : Bytes → Result (Unit {0}) PacketFault
inner_checked bytes =
    if slice_index bytes (header_length bytes + 8) / 8 % 2 == 0 then fault (header_length bytes + 8) NoVni
    else if nat_lt (udp_length bytes) 30 then fault (header_length bytes + udp_length bytes) InnerShort
    else if tag_at bytes (header_length bytes + 28) then fault (header_length bytes + 28) InnerTag
    else if nat_lt 9232 (udp_length bytes) then fault (header_length bytes + 9232) InnerLong
    else Ok tt

abbrev pub inner_of : Bytes → Bytes
inner_of bytes = drop (header_length bytes + 16) (take (header_length bytes + udp_length bytes) bytes)

-- source, destination, network and inner frame
abbrev pub said : Bytes → ℕ × ℕ × ℕ × Bytes
said bytes = (four_bytes bytes 12, four_bytes bytes 16, three_bytes bytes (header_length bytes + 12), inner_of bytes)

unfoldable pub packet_of : Bytes → Result (ℕ × ℕ × ℕ × Bytes) PacketFault
packet_of bytes = result_and (lengths_checked bytes) (result_and (header_checked bytes) (result_and (udp_checked bytes) (result_and (inner_checked bytes) (Ok (said bytes)))))
