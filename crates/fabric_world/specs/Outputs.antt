-- What a fabric writes, and its lines as text.
use Rattle.std.specs.Prelude.{ℕ, List, [], ◌∷◌, codes, decimal, Result, Ok, Err}
use Rattle.std.specs.List.{flat_map}
use Rattle.hex.specs.Hex.{encode_lower}
use Rattle.vtep_base.specs.Reading.{Bytes}
use Rattle.vtep_base.specs.Memory.{joined}
use Rattle.vtep_base.specs.Texts.{ipv4_text}
use Rattle.ether_frames.specs.declared.FrameKind.{FrameKind}
use Rattle.ether_frames.specs.declared.FrameKind.TheVariants as frame_kind
use Rattle.vxlan_frames.specs.Packets.{packet_of}
use Rattle.vxlan_frames.specs.declared.PacketFault.{PacketFault}
use Rattle.vxlan_frames.specs.declared.PacketKind.{PacketKind}
use Rattle.vxlan_frames.specs.declared.PacketKind.TheVariants as packet_kind
use Rattle.rpc_framing.specs.declared.Framing.{Framing}
use Rattle.rpc_framing.specs.declared.FramingKind.{FramingKind}
use Rattle.rpc_framing.specs.declared.FramingKind.TheVariants as framing_kind
use Rattle.vtep_gateway.specs.declared.Outgoing.{Outgoing}
use Rattle.vtep_gateway.specs.declared.Reason.{Reason}
use Rattle.vtep_gateway.specs.declared.Reason.TheVariants as reason

pub data Output : Type 0 where
  Message : Bytes → Outgoing → Output  -- the gateway, and what goes to a session
  Failed : Bytes → ℕ → Framing → Output  -- the gateway, and the session that is refused
  Full : Bytes → Output  -- the gateway, which could not learn a source
  Dropped : Bytes → Reason → Output  -- the gateway, and why a frame or packet goes nowhere
  Out : Bytes → Bytes → Bytes → Output  -- the gateway, the port and the bytes
  Lost : ℕ → Output  -- the address that is nobody's
  Settled : Output
  Shown : Bytes → Output  -- the lines that a gateway shows

-- no bytes are written as a dash
abbrev pub hex_word : Bytes → Bytes
hex_word [] = codes "-"
hex_word (b ∷ bs) = encode_lower (b ∷ bs)

abbrev pub frame_kind_text : FrameKind → Bytes
frame_kind_text frame_kind.Short = codes "Short"
frame_kind_text frame_kind.SecondTag = codes "SecondTag"
frame_kind_text frame_kind.Long = codes "Long"

abbrev pub packet_kind_text : PacketKind → Bytes
packet_kind_text packet_kind.Short = codes "Short"
packet_kind_text packet_kind.Version = codes "Version"
packet_kind_text packet_kind.HeaderLength = codes "HeaderLength"
packet_kind_text packet_kind.TotalLength = codes "TotalLength"
packet_kind_text packet_kind.Checksum = codes "Checksum"
packet_kind_text packet_kind.Fragment = codes "Fragment"
packet_kind_text packet_kind.Protocol = codes "Protocol"
packet_kind_text packet_kind.Port = codes "Port"
packet_kind_text packet_kind.UdpLength = codes "UdpLength"
packet_kind_text packet_kind.NoVni = codes "NoVni"
packet_kind_text packet_kind.InnerShort = codes "InnerShort"
packet_kind_text packet_kind.InnerTag = codes "InnerTag"
packet_kind_text packet_kind.InnerLong = codes "InnerLong"

abbrev pub framing_kind_text : FramingKind → Bytes
framing_kind_text framing_kind.NotObject = codes "NotObject"
framing_kind_text framing_kind.TooDeep = codes "TooDeep"
framing_kind_text framing_kind.TooLong = codes "TooLong"
framing_kind_text framing_kind.BadJson = codes "BadJson"
framing_kind_text framing_kind.BadMessage = codes "BadMessage"

abbrev pub reason_words : Reason → List Bytes
reason_words (reason.Frame why) = codes " frame " ∷ frame_kind_text why.kind ∷ codes " " ∷ decimal why.offset ∷ codes "\n" ∷ []
reason_words (reason.Packet why) = codes " packet " ∷ packet_kind_text why.kind ∷ codes " " ∷ decimal why.offset ∷ codes "\n" ∷ []
reason_words reason.Unbound = codes " unbound\n" ∷ []
reason_words reason.Denied = codes " acl\n" ∷ []
reason_words reason.Address = codes " address\n" ∷ []
reason_words reason.Vni = codes " vni\n" ∷ []

abbrev pub output_text : Output → Bytes
output_text (Message g o) = joined (codes "rpc " ∷ g ∷ codes " " ∷ decimal o.session ∷ codes " " ∷ o.bytes ∷ codes "\n" ∷ [])
output_text (Failed g s why) = joined (codes "failed " ∷ g ∷ codes " " ∷ decimal s ∷ codes " " ∷ framing_kind_text why.kind ∷ codes " " ∷ decimal why.offset ∷ codes "\n" ∷ [])
output_text (Full g) = joined (codes "full " ∷ g ∷ codes "\n" ∷ [])
output_text (Dropped g why) = joined (codes "drop " ∷ g ∷ reason_words why)
output_text (Out g p bytes) = joined (codes "out " ∷ g ∷ codes " " ∷ p ∷ codes " " ∷ hex_word bytes ∷ codes "\n" ∷ [])
output_text (Lost ip) = joined (codes "lost " ∷ ipv4_text ip ∷ codes "\n" ∷ [])
output_text Settled = codes "settled\n"
output_text (Shown text) = text

abbrev pub outputs_text : List Output → Bytes
outputs_text os = flat_map output_text os

-- what is shown of a packet: what it says, or why the bytes are none
abbrev pub shown_packet : Result (ℕ × ℕ × ℕ × Bytes) PacketFault → List Bytes
shown_packet (Ok (src, dst, vni, inner)) = codes "packet " ∷ ipv4_text src ∷ codes " " ∷ ipv4_text dst ∷ codes " " ∷ decimal vni ∷ codes " " ∷ hex_word inner ∷ codes "\n" ∷ []
shown_packet (Err why) = codes "refused " ∷ packet_kind_text why.kind ∷ codes " " ∷ decimal why.offset ∷ codes "\n" ∷ []

abbrev pub packet_text : Bytes → Bytes
packet_text bytes = joined (shown_packet (packet_of bytes))
