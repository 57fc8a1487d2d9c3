-- What a gateway does with the frames of its ports (IEEE 802.3) and with the packets of the underlay (RFC 7348).
use Rattle.std.specs.Prelude.{ℕ, ◌==◌, if◌then◌else◌, [], map, Option, Some, None, is_some, Result, Ok, Err}
use Rattle.vtep_base.specs.Reading.{Bytes}
use Rattle.ether_frames.specs.declared.FrameFault.{FrameFault}
use Rattle.ether_frames.specs.Frames.{frame_of}
use Rattle.vxlan_frames.specs.declared.PacketFault.{PacketFault}
use Rattle.vxlan_frames.specs.Packets.{packet_of}
use Rattle.forward_program.specs.declared.hops.Origin.{Origin}
use Rattle.forward_program.specs.declared.hops.Origin.TheVariants as origin
use Rattle.forward_program.specs.declared.hops.Outcome.{Outcome}
use Rattle.forward_program.specs.declared.hops.Outcome.TheVariants as outcome
use Rattle.forward_program.specs.Readings.{own_ip}
use Rattle.forward_program.specs.Built.{built}
use Rattle.forward_program.specs.declared.hops.Admission.{Admission}
use Rattle.forward_program.specs.declared.hops.Admission.TheVariants as enter
use Rattle.forward_program.specs.Hop.{Ways, Way, admission, hop, ways_of}
use Rattle.forward_program.specs.Sent.{Sent, out_of, packets_of}
use Rattle.vtep_gateway.specs.declared.Reason.{Reason}
use Rattle.vtep_gateway.specs.declared.Reason.TheVariants as reason
use Rattle.vtep_gateway.specs.declared.EventRefused.TheVariants.{NoPort}
use Rattle.vtep_gateway.specs.Vtep.{Vtep}
use Rattle.vtep_gateway.specs.Learning.{Seen, with_source}
use Rattle.vtep_gateway.specs.Gateway.{Gateway, Answer, Step, nothing, refused}
use Rattle.vtep_gateway.specs.Ports.{port_named}

-- what the facts say that are built from the rows and from what is learnt
abbrev pub ways : Vtep → Ways
ways v = ways_of (built v.rows v.learned)

-- where a frame goes by them
abbrev pub way : Vtep → Origin → Bytes → Way
way v from inner = hop (ways v) from inner

abbrev pub why_nowhere : Outcome → Option Reason
why_nowhere outcome.Done = None
why_nowhere outcome.Unbound = Some reason.Unbound
why_nowhere outcome.Denied = Some reason.Denied
why_nowhere outcome.NoVni = Some reason.Vni

-- the frame as it leaves at the ports, in their order, and a packet to each address, ascending
abbrev pub sent_along : ℕ → Way → Bytes → Sent
sent_along own w inner = record { outs = map (out_of inner) w.ports; packets = packets_of own w.vni w.addresses inner }

abbrev pub dropped : Reason → Answer
dropped why = record nothing { dropped = Some why }

abbrev pub sent_unless : Option Reason → Sent → Answer
sent_unless None sent = record nothing { sent = sent }
sent_unless (Some why) sent = dropped why

-- a frame goes its way, or nowhere
abbrev pub forwarded : Vtep → Origin → Bytes → Answer
forwarded v from inner = sent_unless (why_nowhere (way v from inner).outcome) (sent_along (own_ip v.rows) (way v from inner) inner)

-- ---- a frame that enters at a port

-- it goes its way by what is known then
abbrev pub sent_after : Gateway → Seen → Origin → Bytes → Step
sent_after g s from inner = record { gateway = record g { vtep = s.vtep }; answer = record (forwarded s.vtep from inner) { sends = s.sends; full = s.full } }

-- the source of a frame that may enter is learnt first
abbrev pub entered : Gateway → Bytes → ℕ → Bytes → Admission → Step
entered g port vlan inner enter.Unbound = record { gateway = g; answer = dropped reason.Unbound }
entered g port vlan inner enter.Denied = record { gateway = g; answer = dropped reason.Denied }
entered g port vlan inner (enter.To switch) = sent_after g (with_source g.vtep switch port vlan inner) (origin.Port port vlan) inner

abbrev pub frame_step : Gateway → Bytes → Result (ℕ × Bytes) FrameFault → Step
frame_step g port (Ok f) = entered g port f.0 f.1 (admission (ways g.vtep) (port, f.0) f.1)
frame_step g port (Err fault) = record { gateway = g; answer = dropped (reason.Frame fault) }

abbrev pub on_frame : Gateway → Bytes → Bytes → Step
on_frame g port bytes = if is_some (port_named g.vtep.rows port) then frame_step g port (frame_of bytes) else refused g NoPort

-- ---- a packet from the underlay, of which source and destination, network and frame are read

abbrev pub packet_answer : Vtep → Result (ℕ × ℕ × ℕ × Bytes) PacketFault → Answer
packet_answer v (Ok p) = if p.1 == own_ip v.rows then forwarded v (origin.Tunnel p.2) p.3 else dropped reason.Address
packet_answer v (Err fault) = dropped (reason.Packet fault)

abbrev pub on_underlay : Gateway → Bytes → Step
on_underlay g bytes = record { gateway = g; answer = packet_answer g.vtep (packet_of bytes) }
