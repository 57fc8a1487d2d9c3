-- What happens at the gateways of a fabric: events, and the packets that they make.
use Rattle.std.specs.Prelude.{ℕ, Bool, not, ◌==◌, if◌then◌else◌, List, [], ◌∷◌, ◌++◌, map, filter, find, Option, Some, None, Result, Ok, Err}
use Rattle.vtep_base.specs.Chains.{◌>>=◌, or_refuse}
use Rattle.vtep_base.specs.Reading.{Bytes}
use Rattle.vtep_base.specs.Maps as maps
use Rattle.vtep_base.specs.Maps.{Map}
use Rattle.vtep_base.specs.declared.answers.LineReason.TheVariants.{Unknown, Repeated, Limit}
use Rattle.rpc_framing.specs.declared.Framing.{Framing}
use Rattle.vxlan_frames.specs.Packets.{four_bytes}
use Rattle.vtep_rows.specs.Row.{put_all}
use Rattle.forward_program.specs.Readings.{own_ip}
use Rattle.vtep_gateway.specs.Gateway.{Gateway, Answer, Step}
use Rattle.vtep_gateway.specs.Moves as moves
use Rattle.vtep_gateway.specs.declared.Event.{Event}
use Rattle.vtep_gateway.specs.declared.Event.TheVariants as event
use Rattle.vtep_gateway.specs.declared.EventRefused.{EventRefused}
use Rattle.vtep_gateway.specs.declared.EventRefused.TheVariants as event_refused
use Rattle.vtep_gateway.specs.declared.Outgoing.{Outgoing}
use Rattle.vtep_gateway.specs.declared.Reason.{Reason}
use Rattle.fabric_world.specs.declared.Fault.{Fault}
use Rattle.fabric_world.specs.Intentions.{Intention, bytes_cmp}
use Rattle.fabric_world.specs.Installer.{Peers, peer_in, operations, request_of}
use Rattle.fabric_world.specs.Outputs.{Output, Message, Failed, Full, Dropped, Out, Lost}

-- the gateways of a fabric, by their names
abbrev pub Gateways : Type 0
Gateways = Map bytes_cmp Gateway

-- the gateways after something, and what is written on the way to them
pub record Happening : Type 0 where
  pub gateways : Gateways
  pub output : List Output

abbrev pub quiet : Gateways → Happening
quiet gs = record { gateways = gs; output = [] }

-- what follows is written behind
abbrev pub then_happens : Happening → (Gateways → Happening) → Happening
then_happens h next = let n : Happening = next h.gateways in record { gateways = n.gateways; output = h.output ++ n.output }

-- ---- an event at a gateway

abbrev pub known : {A : Type 0} → Map bytes_cmp A → Bytes → Result A Fault
known m g = or_refuse (record { word = 1; reason = Unknown }) (maps.get m g)

-- why a gateway refuses an event, at the line's word
abbrev pub fault_of : EventRefused → Fault
fault_of event_refused.Repeated = record { word = 2; reason = Repeated }
fault_of event_refused.Ports = record { word = 0; reason = Limit }
fault_of event_refused.NoPort = record { word = 2; reason = Unknown }
fault_of event_refused.NoSession = record { word = 2; reason = Unknown }

abbrev pub unless_refused : Option EventRefused → Step → Result Step Fault
unless_refused None s = Ok s
unless_refused (Some why) s = Err (fault_of why)

abbrev pub accepted : Step → Result Step Fault
accepted s = unless_refused s.answer.refused s

-- what goes to the fabric's controller, session 0, is not shown
abbrev pub messages : Bytes → List Outgoing → List Output
messages g sends = map (Message g) (filter (λ o. not (o.session == 0)) sends)

abbrev pub failures : Bytes → ℕ → Option Framing → List Output
failures g s None = []
failures g s (Some why) = if s == 0 then [] else Failed g s why ∷ []

-- the session that an event comes from
abbrev pub session_of : Event → ℕ
session_of (event.Bytes s piece) = s
session_of _ = 0

-- a source that could not be learnt
abbrev pub fulls : Bytes → Bool → List Output
fulls g full = if full then Full g ∷ [] else []

abbrev pub drops : Bytes → Option Reason → List Output
drops g None = []
drops g (Some why) = Dropped g why ∷ []

-- messages, the session that is refused, a source that was not learnt, why a frame goes nowhere, and the frames that leave
abbrev pub answer_outputs : Bytes → Event → Answer → List Output
answer_outputs g e a = messages g a.sends ++ (failures g (session_of e) a.failed ++ (fulls g a.full ++ (drops g a.dropped ++ map (λ o. Out g o.port o.bytes) a.sent.outs)))

abbrev pub happened : Gateways → Bytes → Event → Step → Happening
happened gs g e s = record { gateways = maps.insert gs g s.gateway; output = answer_outputs g e s.answer }

-- ---- packets

abbrev pub has_ip : ℕ → Bytes × Gateway → Bool
has_ip ip e = own_ip e.1.vtep.rows == ip

-- the destination of an IPv4 packet (RFC 791, section 3.1)
abbrev pub destination : Bytes → ℕ
destination packet = four_bytes packet 16

-- a packet comes to the gateway of its address, or it is lost
abbrev pub carried_to : Gateways → Bytes → Option (Bytes × Gateway) → Happening
carried_to gs packet None = record { gateways = gs; output = Lost (destination packet) ∷ [] }
carried_to gs packet (Some e) = happened gs e.0 (event.Underlay packet) (moves.step e.1 (event.Underlay packet))

abbrev pub carried : Gateways → Bytes → Happening
carried gs packet = carried_to gs packet (find (has_ip (destination packet)) gs.list)

-- packets one after the other
abbrev pub carried_each : Gateways → List Bytes → Happening
carried_each gs [] = quiet gs
carried_each gs (packet ∷ packets) = then_happens (carried gs packet) (λ hs. carried_each hs packets)

-- an event comes to a gateway, and then its packets to others
abbrev pub event_at : Gateways → Bytes → Event → Result Happening Fault
event_at gs g e = do
  gateway ← known gs g
  s ← accepted (moves.step gateway e)
  Ok (then_happens (happened gs g e s) (λ hs. carried_each hs s.answer.sent.packets))

-- ---- settling

-- the gateways as they are found
abbrev pub peers_of : Gateways → Peers
peers_of gs = put_all maps.empty (map (λ e. (e.0, peer_in e.1.vtep.rows)) gs.list)

-- a gateway is asked for what a request says, where there is one
abbrev pub asked : Gateways → Bytes → Option Gateway → Option Bytes → Happening
asked gs g gateway None = quiet gs
asked gs g None (Some request) = quiet gs
asked gs g (Some gateway) (Some request) = let e : Event = event.Bytes 0 request in happened gs g e (moves.step gateway e)

-- what is wanted of a gateway, where these are found
abbrev pub install_at : Intention → Peers → Gateways → Bytes → Happening
install_at i peers gs g = asked gs g (maps.get gs g) (request_of (operations i peers g))

-- the gateways one after the other
abbrev pub install_each : Intention → Peers → Gateways → List Bytes → Happening
install_each i peers gs [] = quiet gs
install_each i peers gs (g ∷ names) = then_happens (install_at i peers gs g) (λ hs. install_each i peers hs names)

abbrev pub settled : Intention → Gateways → Happening
settled i gs = let peers : Peers = peers_of gs in install_each i peers gs (maps.keys peers)
