-- The bytes that a hop sends.
use Rattle.std.specs.Prelude.{ℕ, List, [], map, Option, Some, None, refl}
use Rattle.std.specs.Coded.{Coded, code_by, coded×, coded_ℕ, coded_list}
use Rattle.vtep_base.specs.Reading.{Bytes}
use Rattle.ether_frames.specs.Frames.{tagged}
use Rattle.vxlan_frames.specs.Packets.{canon}
use Rattle.forward_program.specs.declared.sent.Out.{Out}
use Rattle.forward_program.specs.contracts.sent.Out as out
use Rattle.forward_program.specs.Hops.{Hops}

-- frames that leave ports, and packets
pub record Sent : Type 0 where
  pub outs : List Out
  pub packets : List Bytes

abbrev pub sent_code : Coded Sent
sent_code = code_by (List Out × List Bytes) (coded× (coded_list (out.the_row).coded) (coded_list (coded_list coded_ℕ))) (λ s. (s.outs, s.packets)) (λ p. record { outs = p.0; packets = p.1 }) (λ _. refl)

abbrev pub nothing : Sent
nothing = record { outs = []; packets = [] }

-- the frame as it leaves at a VLAN of a port
abbrev pub out_of : Bytes → Bytes × ℕ → Out
out_of inner p = record { port = p.0; bytes = tagged p.1 inner }

-- one packet to each address, where there is a network
abbrev pub packets_of : ℕ → Option ℕ → List ℕ → Bytes → List Bytes
packets_of own None addresses inner = []
packets_of own (Some vni) addresses inner = map (λ ip. canon own ip vni inner) addresses

abbrev pub sent_of : Hops → ℕ → Bytes → Sent
sent_of h own inner = record { outs = map (out_of inner) h.ports; packets = packets_of own h.vni h.addresses inner }
