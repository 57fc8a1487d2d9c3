-- The headers of a frame without tag (IEEE 802.3, RFC 791, 768, 9293, 792). Numbers have their high byte first.
use Rattle.std.specs.Prelude.{ℕ, ◌+◌, ◌*◌, ◌/◌, ◌%◌, ◌^◌, Bool, ◌&&◌, ◌||◌, nat_le, ◌==◌, if◌then◌else◌, [], length, take, drop, slice_index, Option, Some, None}
use Rattle.vtep_base.specs.Reading.{Bytes}
use Rattle.vtep_base.specs.Addresses.{be}
use Rattle.ether_frames.specs.declared.fields.Headers.{Headers}
use Rattle.ether_frames.specs.declared.fields.Icmp.{Icmp}
use Rattle.ether_frames.specs.declared.fields.Ip.{Ip}
use Rattle.ether_frames.specs.declared.fields.Ports.{Ports}

-- two and four bytes at an offset
abbrev pub word : Bytes → ℕ → ℕ
word bytes at = 256 * slice_index bytes at + slice_index bytes (at + 1)

abbrev pub four_bytes : Bytes → ℕ → ℕ
four_bytes bytes at = 65536 * word bytes at + word bytes (at + 2)

-- ---- IPv4

abbrev pub header_length : Bytes → ℕ
header_length packet = 4 * (slice_index packet 0 % 16)

-- at least 20 bytes, version 4, and a header of at least 20 bytes that are there
abbrev pub has_ipv4 : Bytes → Bool
has_ipv4 packet =
    nat_le 20 (length packet) && (slice_index packet 0 / 16 == 4) && nat_le 20 (header_length packet) && nat_le (header_length packet) (length packet)

-- what follows the header in the first fragment; a later one has no headers there
abbrev pub payload : Bytes → Bytes
payload packet = if word packet 6 % 2 ^ 13 == 0 then drop (header_length packet) packet else []

-- ---- TCP and UDP

abbrev pub ports_of : ℕ → Bytes → Option Ports
ports_of protocol payload =
    if ((protocol == 6) || (protocol == 17)) && nat_le 4 (length payload)
    then Some (record { source = word payload 0; destination = word payload 2 })
    else None

-- the low bit of byte 12, and byte 13
abbrev pub tcp_flags_of : ℕ → Bytes → Option ℕ
tcp_flags_of protocol payload = if (protocol == 6) && nat_le 14 (length payload) then Some (word payload 12 % 512) else None

-- ---- ICMP

abbrev pub icmp_of : ℕ → Bytes → Option Icmp
icmp_of protocol payload =
    if (protocol == 1) && nat_le 2 (length payload)
    then Some (record { kind = slice_index payload 0; code = slice_index payload 1 })
    else None

-- ---- the frame

abbrev pub ip_fields : Bytes → Ip
ip_fields packet =
    let protocol : ℕ = slice_index packet 9 in
    record {
      source = four_bytes packet 12;
      destination = four_bytes packet 16;
      protocol = protocol;
      ports = ports_of protocol (payload packet);
      tcp_flags = tcp_flags_of protocol (payload packet);
      icmp = icmp_of protocol (payload packet);
    }

abbrev pub ip_of : Bytes → Option Ip
ip_of packet = if has_ipv4 packet then Some (ip_fields packet) else None

abbrev pub carried_ip : ℕ → Bytes → Option Ip
carried_ip ethertype packet = if ethertype == 0x0800 then ip_of packet else None

abbrev pub headers_of : Bytes → Headers
headers_of inner = record {
  destination = be (take 6 inner);
  source = be (take 6 (drop 6 inner));
  ethertype = word inner 12;
  ip = carried_ip (word inner 12) (drop 14 inner);
}
