-- What gateways are asked to do, by computation.
use Rattle.std.specs.Prelude.{◌≡◌, ℕ, [], ◌∷◌, Some, None, codes, refl}
use Rattle.json_notation.specs.Computes.{texts}
use Rattle.vtep_base.specs.Reading.{Bytes}
use Rattle.vtep_base.specs.Maps as maps
use Rattle.vtep_base.specs.declared.answers.Mode.TheVariants.{Source}
use Rattle.vtep_base.specs.declared.bindings.Binding.{Binding}
use Rattle.vtep_base.specs.declared.shapes.Action.{Action}
use Rattle.vtep_base.specs.declared.shapes.Action.TheVariants.{Permit, Deny}
use Rattle.vtep_base.specs.declared.shapes.Direction.TheVariants.{Ingress}
use Rattle.vtep_rows.specs.Rows.{row_id}
use Rattle.fabric_world.specs.declared.fields.AclFields.{AclFields}
use Rattle.fabric_world.specs.declared.WantedEntry.{WantedEntry}
use Rattle.fabric_world.specs.Acls.{no_fields}
use Rattle.fabric_world.specs.Intentions.{Intention}
use Rattle.fabric_world.specs.Installer.{Peer, Peers, operations, request_of}

abbrev at : Bytes → Bytes → ℕ → Binding
at g p vlan = record { gateway = g; port = p; vlan = vlan }

abbrev entry : ℕ → Action → AclFields → WantedEntry
entry sequence action fields = record { sequence = sequence; direction = Ingress; action = action; fields = fields }

abbrev telnet : AclFields
telnet = record no_fields { protocol = Some 6; dest_port_min = Some 23; dest_port_max = Some 23 }

-- red is bound at p1 of all three, and at a port that is not there; blue at g1 alone; the list l guards a VLAN of p1 of g1 that is bound nowhere,
-- and m a port that is not there
abbrev intention : Intention
intention = record {
  switches = maps.insert (maps.insert maps.empty (codes "red") (record { vni = 100; mode = Source })) (codes "blue") (record { vni = 7; mode = Source });
  bindings =
      maps.insert (maps.insert (maps.insert (maps.insert (maps.insert maps.empty (at (codes "g1") (codes "p1") 0) (codes "red")) (at (codes "g2") (codes "p1") 0) (codes "red"))
      (at (codes "g3") (codes "p1") 0) (codes "red")) (at (codes "g1") (codes "p9") 5) (codes "red")) (at (codes "g1") (codes "p1") 12) (codes "blue");
  acls = maps.insert (maps.insert maps.empty (codes "m") (entry 1 Deny no_fields ∷ [])) (codes "l") (entry 20 Permit no_fields ∷ entry 10 Deny telnet ∷ []);
  guards = maps.insert (maps.insert maps.empty (at (codes "g1") (codes "p9") 0) (codes "m")) (at (codes "g1") (codes "p1") 5) (codes "l");
}

abbrev peer : ℕ → Peer
peer ip = record { ip = ip; ports = maps.insert maps.empty (codes "p1") (row_id ip 3) }

abbrev peers : Peers
peers = maps.insert (maps.insert (maps.insert (maps.insert maps.empty (codes "g3") (peer 0x0a000003)) (codes "g1") (peer 0x0a000001)) (codes "g2") (peer 0x0a000002)) (codes "g4") (peer 0x0a000004)

asks : request_of (operations intention peers (codes "g1")) ≡ Some (codes "{\"id\":2,\"method\":\"transact\",\"params\":[\"hardware_vtep\",{\"op\":\"insert\",\"row\":{\"dst_ip\":\"10.0.0.2\",\"encapsulation_type\":\"vxlan_over_ipv4\"},\"table\":\"Physical_Locator\",\"uuid-name\":\"r0\"},{\"op\":\"insert\",\"row\":{\"dst_ip\":\"10.0.0.3\",\"encapsulation_type\":\"vxlan_over_ipv4\"},\"table\":\"Physical_Locator\",\"uuid-name\":\"r1\"},{\"op\":\"insert\",\"row\":{\"name\":\"blue\",\"replication_mode\":\"source_node\",\"tunnel_key\":7},\"table\":\"Logical_Switch\",\"uuid-name\":\"r2\"},{\"op\":\"insert\",\"row\":{\"name\":\"red\",\"replication_mode\":\"source_node\",\"tunnel_key\":100},\"table\":\"Logical_Switch\",\"uuid-name\":\"r3\"},{\"op\":\"insert\",\"row\":{\"action\":\"deny\",\"dest_port_max\":23,\"dest_port_min\":23,\"direction\":\"ingress\",\"protocol\":6,\"sequence\":10},\"table\":\"ACL_entry\",\"uuid-name\":\"r4\"},{\"op\":\"insert\",\"row\":{\"action\":\"permit\",\"direction\":\"ingress\",\"sequence\":20},\"table\":\"ACL_entry\",\"uuid-name\":\"r5\"},{\"op\":\"insert\",\"row\":{\"acl_entries\":[\"set\",[[\"named-uuid\",\"r4\"],[\"named-uuid\",\"r5\"]]],\"acl_name\":\"l\"},\"table\":\"ACL\",\"uuid-name\":\"r6\"},{\"op\":\"update\",\"row\":{\"acl_bindings\":[\"map\",[[5,[\"named-uuid\",\"r6\"]]]],\"vlan_bindings\":[\"map\",[[0,[\"named-uuid\",\"r3\"]],[12,[\"named-uuid\",\"r2\"]]]]},\"table\":\"Physical_Port\",\"where\":[[\"_uuid\",\"==\",[\"uuid\",\"0a000001-0000-8000-8000-000000000003\"]]]},{\"op\":\"insert\",\"row\":{\"locators\":[\"set\",[[\"named-uuid\",\"r0\"],[\"named-uuid\",\"r1\"]]]},\"table\":\"Physical_Locator_Set\",\"uuid-name\":\"r7\"},{\"op\":\"insert\",\"row\":{\"MAC\":\"unknown-dst\",\"locator_set\":[\"named-uuid\",\"r7\"],\"logical_switch\":[\"named-uuid\",\"r3\"]},\"table\":\"Mcast_Macs_Remote\",\"uuid-name\":\"r8\"}]}")
unfolding texts
asks = refl

-- where nothing is wanted, and of a gateway that was not found
asks_nothing : request_of (operations intention peers (codes "g4")) ≡ None
asks_nothing = refl

asks_nobody : request_of (operations intention peers (codes "g5")) ≡ None
asks_nobody = refl
