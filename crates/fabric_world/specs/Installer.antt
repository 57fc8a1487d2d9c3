-- The operations by which `settle` writes the intent into the tables of a gateway that has its ports and nothing else (RFC 7047,
-- section 5.2): locators, switches, access lists, ports, and the sets that take what is to go everywhere.
use Rattle.std.specs.Prelude.{ℕ, suc, ◌+◌, pos, Bool, not, ◌&&◌, ◌==◌, if◌then◌else◌, List, [], ◌∷◌, ◌++◌, map, filter, filter_map, length, Option, Some, None, option_map, unwrap_or, codes, decimal, refl}
use Rattle.std.specs.Coded.{Coded, code_by, coded×, coded_ℕ, coded_list}
use Rattle.std.specs.List.{list_any, flat_map}
use Rattle.std.specs.BTreeMap.{is_at}
use Rattle.std.specs.BTreeSet.{insert_key}
use Rattle.std.specs.Ordering.{nat_cmp, ordering_then}
use Rattle.std.specs.declared.cmp.Ordering.{Ordering}
use Rattle.serde_json.specs.Data.{Data, number, unsigned, string}
use Rattle.vtep_base.specs.Reading.{Bytes, same_bytes}
use Rattle.vtep_base.specs.Maps as maps
use Rattle.vtep_base.specs.Maps.{Map}
use Rattle.vtep_base.specs.Addresses.{mac_text}
use Rattle.vtep_base.specs.Texts.{ipv4_text}
use Rattle.vtep_base.specs.declared.answers.Mode.{Mode}
use Rattle.vtep_base.specs.declared.answers.Mode.TheVariants.{Source, Service}
use Rattle.vtep_base.specs.declared.bindings.Binding.{Binding}
use Rattle.vtep_base.specs.declared.shapes.Action.{Action}
use Rattle.vtep_base.specs.declared.shapes.Action.TheVariants.{Permit, Deny}
use Rattle.vtep_base.specs.declared.shapes.Direction.{Direction}
use Rattle.vtep_base.specs.declared.shapes.Direction.TheVariants.{Ingress, Egress}
use Rattle.json_notation.specs.Json.{list, fields}
use Rattle.ovsdb_values.specs.declared.atoms.Atom.{Atom}
use Rattle.ovsdb_values.specs.declared.atoms.Atom.TheVariants.{Integer, Text, Id, Named}
use Rattle.ovsdb_values.specs.declared.datums.Datum.{Datum}
use Rattle.ovsdb_values.specs.declared.datums.Datum.TheVariants as datum
use Rattle.ovsdb_values.specs.Sets.{one, set_of, map_of}
use Rattle.ovsdb_values.specs.Notation.{atom_json, datum_json}
use Rattle.vtep_schema.specs.declared.Table.{Table}
use Rattle.vtep_schema.specs.declared.Table.TheVariants.{PhysicalPort, LogicalSwitch, McastMacsRemote, PhysicalLocatorSet, PhysicalLocator, Acl, AclEntry}
use Rattle.vtep_schema.specs.declared.Column.{Column}
use Rattle.vtep_schema.specs.declared.Column.TheVariants.{PortVlanBindings, PortAclBindings, LogicalName, LogicalTunnelKey, LogicalReplicationMode, McastRemoteMac, McastRemoteLogicalSwitch, McastRemoteLocatorSet, SetLocators, LocatorEncapsulationType, LocatorDstIp, AclName, AclEntries, EntrySequence, EntryDirection, EntryAction, EntrySourceMac, EntryDestMac, EntryEthertype, EntrySourceIp, EntrySourceMask, EntryDestIp, EntryDestMask, EntryProtocol, EntryIcmpType, EntryIcmpCode, EntrySourcePortMin, EntrySourcePortMax, EntryDestPortMin, EntryDestPortMax, EntryTcpFlags, EntryTcpFlagsMask}
use Rattle.vtep_schema.specs.Tables.{table_name, column_name}
use Rattle.vtep_rows.specs.Row.{Contents, put_all}
use Rattle.vtep_rows.specs.Rows.{Rows, rows_of}
use Rattle.forward_program.specs.Readings.{own_ip, port_name}
use Rattle.rpc_framing.specs.Said.{Request}
use Rattle.rpc_framing.specs.Written.{message_text}
use Rattle.fabric_world.specs.declared.fields.AclFields.{AclFields}
use Rattle.fabric_world.specs.declared.Network.{Network}
use Rattle.fabric_world.specs.declared.WantedEntry.{WantedEntry}
use Rattle.fabric_world.specs.Intentions.{Intention, bytes_cmp, binding_cmp, entries_of, in_sequence}

-- a gateway as it is found: its address, and its ports with the identifiers of their rows
pub record Peer : Type 0 where
  pub ip : ℕ
  pub ports : Map bytes_cmp ℕ

abbrev pub peer_code : Coded Peer
peer_code = code_by (ℕ × Map bytes_cmp ℕ) (coded× coded_ℕ (maps.code (coded_list coded_ℕ) coded_ℕ)) (λ p. (p.ip, p.ports)) (λ p. record { ip = p.0; ports = p.1 }) (λ _. refl)

abbrev pub Peers : Type 0
Peers = Map bytes_cmp Peer

abbrev pub peers_code : Coded Peers
peers_code = maps.code (coded_list coded_ℕ) peer_code

-- the name of a port, and its row
abbrev pub port_in : ℕ × Contents → Option (Bytes × ℕ)
port_in e = option_map (λ name. (name, e.0)) (port_name e.1)

-- the gateway of these rows
abbrev pub peer_in : Rows → Peer
peer_in r = record { ip = own_ip r; ports = put_all maps.empty (filter_map port_in (rows_of PhysicalPort r)) }

-- ---- what is wanted at a gateway

-- ascending keys, and further ones put at their places among them
abbrev pub with_each : {K : Type 0} → (K → K → Ordering) → List K → List K → List K
with_each R done [] = done
with_each R done (k ∷ ks) = with_each R (insert_key R done k) ks

-- in ascending order, each once
abbrev pub ascending : {K : Type 0} → (K → K → Ordering) → List K → List K
ascending R ks = with_each R [] ks

-- the binding is at this port of this gateway
abbrev pub is_at_port : Bytes → Bytes → Binding × Bytes → Bool
is_at_port g p e = same_bytes e.0.gateway g && same_bytes e.0.port p

-- a VLAN, and the switch that it is bound to, or the access list that guards it
abbrev pub Bound : Type 0
Bound = ℕ × Bytes

abbrev pub bound : Binding × Bytes → Bound
bound e = (e.0.vlan, e.1)

-- what the VLANs of a port are bound to
abbrev pub bound_at : Map binding_cmp Bytes → Bytes → Bytes → List Bound
bound_at bindings g p = map bound (filter (is_at_port g p) bindings.list)

-- the row of a port, its VLANs that are bound with their switches, and those that are guarded with their access lists
abbrev pub Port : Type 0
Port = ℕ × List Bound × List Bound

-- the ports that the gateway has, by name
abbrev pub ports_at : Intention → Bytes → Peer → List Port
ports_at i g peer = map (λ p. (p.1, bound_at i.bindings g p.0, bound_at i.guards g p.0)) peer.ports.list

-- the switches of their bindings, by name
abbrev pub switches_in : List Port → List Bytes
switches_in ports = ascending bytes_cmp (flat_map (λ p. map (λ b. b.1) p.1) ports)

-- the access lists that guard them, by name
abbrev pub acls_in : List Port → List Bytes
acls_in ports = ascending bytes_cmp (flat_map (λ p. map (λ b. b.1) p.2) ports)

-- a switch, and a gateway at which it has a binding
abbrev pub Host : Type 0
Host = Bytes × Bytes

-- by switch, and then by gateway
abbrev pub host_cmp : Host → Host → Ordering
host_cmp a b = ordering_then (bytes_cmp a.0 b.0) (bytes_cmp a.1 b.1)

abbrev pub hosts_at : Intention → Bytes × Peer → List Host
hosts_at i e = map (λ s. (s, e.0)) (switches_in (ports_at i e.0 e.1))

-- all of them
abbrev pub hosts_of : Intention → Peers → List Host
hosts_of i peers = ascending host_cmp (flat_map (hosts_at i) peers.list)

abbrev pub is_host : List Host → Bytes → Bytes → Bool
is_host hs s g = list_any (is_at (host_cmp (s, g))) hs

-- the addresses of the other gateways at which the switch has a binding
abbrev pub others : List Host → Peers → Bytes → Bytes → List ℕ
others hs peers g s = ascending nat_cmp (map (λ e. e.1.ip) (filter (λ e. not (same_bytes e.0 g) && is_host hs s e.0) peers.list))

-- a switch with other gateways, and the addresses of these
abbrev pub Flood : Type 0
Flood = Bytes × List ℕ

-- none where there are no others
abbrev pub flood : Bytes → List ℕ → List Flood
flood s [] = []
flood s (ip ∷ ips) = (s, ip ∷ ips) ∷ []

abbrev pub floods_at : List Host → Peers → Bytes → List Bytes → List Flood
floods_at hs peers g switches = flat_map (λ s. flood s (others hs peers g s)) switches

-- ---- as operations

-- the k-th insertion, from 0, is named r and k
abbrev pub row_name : ℕ → Bytes
row_name k = codes "r" ++ decimal k

abbrev pub new_row : ℕ → Atom
new_row k = Named (row_name k)

abbrev pub columns_json : List (Column × Datum) → Data
columns_json values = fields (map (λ v. (column_name v.0, datum_json v.1)) values)

abbrev pub insert_json : Table → ℕ → List (Column × Datum) → Data
insert_json t k values =
    fields ((codes "op", string (codes "insert")) ∷ (codes "row", columns_json values) ∷ (codes "table", string (table_name t)) ∷ (codes "uuid-name", string (row_name k)) ∷ [])

-- what f gives of each, and of its number
abbrev pub numbered : {A B : Type 0} → (ℕ → A → B) → ℕ → List A → List B
numbered f k [] = []
numbered f k (x ∷ xs) = f k x ∷ numbered f (suc k) xs

-- the numbers of the rows of keys, from k on
abbrev pub rows_from : {K : Type 0} {R : K → K → Ordering} → ℕ → List K → Map R ℕ
rows_from k keys = put_all maps.empty (numbered (λ n key. (key, n)) k keys)

-- the row of a key
abbrev pub row_in : {K : Type 0} {R : K → K → Ordering} → Map R ℕ → K → Atom
row_in rows key = new_row (unwrap_or (maps.get rows key) 0)

abbrev pub locator_json : ℕ → ℕ → Data
locator_json k ip = insert_json PhysicalLocator k ((LocatorDstIp, one (Text (ipv4_text ip))) ∷ (LocatorEncapsulationType, one (Text (codes "vxlan_over_ipv4"))) ∷ [])

abbrev pub mode_text : Mode → Bytes
mode_text Source = codes "source_node"
mode_text Service = codes "service_node"

abbrev pub switch_values : Bytes → Option Network → List (Column × Datum)
switch_values s None = (LogicalName, one (Text s)) ∷ []
switch_values s (Some n) = (LogicalName, one (Text s)) ∷ (LogicalReplicationMode, one (Text (mode_text n.mode))) ∷ (LogicalTunnelKey, one (Integer (pos n.vni))) ∷ []

abbrev pub switch_json : Intention → ℕ → Bytes → Data
switch_json i k s = insert_json LogicalSwitch k (switch_values s (maps.get i.switches s))

-- ---- access lists

-- the columns of fields that are given
abbrev pub given : {A : Type 0} → (A → Atom) → List (Column × Option A) → List (Column × Datum)
given f columns = filter_map (λ c. option_map (λ a. (c.0, one (f a))) c.1) columns

abbrev pub mac_atom : ℕ → Atom
mac_atom mac = Text (mac_text mac)

abbrev pub ip_atom : ℕ → Atom
ip_atom ip = Text (ipv4_text ip)

abbrev pub number_atom : ℕ → Atom
number_atom n = Integer (pos n)

abbrev pub macs : AclFields → List (Column × Option ℕ)
macs f = (EntrySourceMac, f.source_mac) ∷ (EntryDestMac, f.dest_mac) ∷ []

abbrev pub ethertypes : AclFields → List (Column × Option Bytes)
ethertypes f = (EntryEthertype, f.ethertype) ∷ []

abbrev pub ips : AclFields → List (Column × Option ℕ)
ips f = (EntrySourceIp, f.source_ip) ∷ (EntrySourceMask, f.source_mask) ∷ (EntryDestIp, f.dest_ip) ∷ (EntryDestMask, f.dest_mask) ∷ []

abbrev pub numbers : AclFields → List (Column × Option ℕ)
numbers f =
    (EntryProtocol, f.protocol) ∷ (EntryIcmpType, f.icmp_type) ∷ (EntryIcmpCode, f.icmp_code)
    ∷ (EntrySourcePortMin, f.source_port_min) ∷ (EntrySourcePortMax, f.source_port_max) ∷ (EntryDestPortMin, f.dest_port_min) ∷ (EntryDestPortMax, f.dest_port_max)
    ∷ (EntryTcpFlags, f.tcp_flags) ∷ (EntryTcpFlagsMask, f.tcp_flags_mask) ∷ []

abbrev pub direction_text : Direction → Bytes
direction_text Ingress = codes "ingress"
direction_text Egress = codes "egress"

abbrev pub action_text : Action → Bytes
action_text Permit = codes "permit"
action_text Deny = codes "deny"

-- the columns of an entry, but for those that are not given
abbrev pub entry_values : WantedEntry → List (Column × Datum)
entry_values e =
    ((EntrySequence, one (Integer (pos e.sequence))) ∷ (EntryDirection, one (Text (direction_text e.direction))) ∷ (EntryAction, one (Text (action_text e.action))) ∷ [])
    ++ given mac_atom (macs e.fields) ++ given Text (ethertypes e.fields) ++ given ip_atom (ips e.fields) ++ given number_atom (numbers e.fields)

abbrev pub entry_json : ℕ → WantedEntry → Data
entry_json k e = insert_json AclEntry k (entry_values e)

-- an access list with the rows of its entries
abbrev pub acl_json : ℕ → Bytes → List Atom → Data
acl_json k name rows = insert_json Acl k ((AclEntries, datum.Set (set_of rows)) ∷ (AclName, one (Text name)) ∷ [])

-- the entries of an access list in their order from row k on, and then itself
abbrev pub with_entries : List WantedEntry → ℕ → Bytes → List Data
with_entries entries k name = numbered entry_json k entries ++ acl_json (k + length entries) name (numbered (λ n e. new_row n) k entries) ∷ []

abbrev pub wanted_entries : Intention → Bytes → List WantedEntry
wanted_entries i name = in_sequence (entries_of i name)

-- access lists from row k on
abbrev pub acls_json : Intention → ℕ → List Bytes → List Data
acls_json i k [] = []
acls_json i k (name ∷ names) = with_entries (wanted_entries i name) k name ++ acls_json i (suc (k + length (wanted_entries i name))) names

-- their rows
abbrev pub acl_rows : Intention → ℕ → List Bytes → List (Bytes × ℕ)
acl_rows i k [] = []
acl_rows i k (name ∷ names) = (name, k + length (wanted_entries i name)) ∷ acl_rows i (suc (k + length (wanted_entries i name))) names

-- ---- ports

-- the row of this identifier
abbrev pub at_id : ℕ → Data
at_id id = list (list (string (codes "_uuid") ∷ string (codes "==") ∷ atom_json (Id id) ∷ []) ∷ [])

-- what each VLAN is bound to, as its row
abbrev pub bound_rows : Map bytes_cmp ℕ → List Bound → Datum
bound_rows rows bindings = datum.Map (map_of (map (λ b. (Integer (pos b.0), row_in rows b.1)) bindings))

-- where switches and access lists have these rows
abbrev pub port_json : Map bytes_cmp ℕ → Map bytes_cmp ℕ → Port → Data
port_json switches acls p =
    fields ((codes "op", string (codes "update"))
    ∷ (codes "row", columns_json ((PortAclBindings, bound_rows acls p.2) ∷ (PortVlanBindings, bound_rows switches p.1) ∷ []))
    ∷ (codes "table", string (table_name PhysicalPort)) ∷ (codes "where", at_id p.0) ∷ [])

-- a port that has bindings or is guarded
abbrev pub update_json : Map bytes_cmp ℕ → Map bytes_cmp ℕ → Port → List Data
update_json switches acls p = if (length p.1 == 0) && (length p.2 == 0) then [] else port_json switches acls p ∷ []

abbrev pub ports_json : Map bytes_cmp ℕ → Map bytes_cmp ℕ → List Port → List Data
ports_json switches acls ports = flat_map (update_json switches acls) ports

-- ---- floods

abbrev pub set_json : Map nat_cmp ℕ → ℕ → List ℕ → Data
set_json locators k ips = insert_json PhysicalLocatorSet k ((SetLocators, datum.Set (set_of (map (row_in locators) ips))) ∷ [])

-- what has no other place goes to the set of row k
abbrev pub remote_json : Map bytes_cmp ℕ → ℕ → Bytes → Data
remote_json switches k s =
    insert_json McastMacsRemote (k + 1) ((McastRemoteMac, one (Text (codes "unknown-dst"))) ∷ (McastRemoteLocatorSet, one (new_row k)) ∷ (McastRemoteLogicalSwitch, one (row_in switches s)) ∷ [])

-- the sets of locators, each before the row that sends there
abbrev pub floods_json : Map nat_cmp ℕ → Map bytes_cmp ℕ → ℕ → List Flood → List Data
floods_json locators switches k [] = []
floods_json locators switches k (f ∷ fs) = set_json locators k f.1 ∷ remote_json switches k f.0 ∷ floods_json locators switches (k + 2) fs

-- the operations that make these ports, switches, access lists, floods, and the locators of these addresses
abbrev pub operations_for : Intention → List Port → List Bytes → List Bytes → List Flood → List ℕ → List Data
operations_for i ports switches acls floods addresses =
    let first : ℕ = length addresses in
    let second : ℕ = first + length switches in
    let lists : List Data = acls_json i second acls in
    let rows : Map bytes_cmp ℕ = rows_from first switches in
    numbered locator_json 0 addresses ++ numbered (switch_json i) first switches ++ lists
    ++ ports_json rows (put_all maps.empty (acl_rows i second acls)) ports
    ++ floods_json (rows_from 0 addresses) rows (second + length lists) floods

-- at a gateway with these ports
abbrev pub operations_of : Intention → Peers → Bytes → List Port → List Data
operations_of i peers g ports =
    let switches : List Bytes = switches_in ports in
    let floods : List Flood = floods_at (hosts_of i peers) peers g switches in
    operations_for i ports switches (acls_in ports) floods (ascending nat_cmp (flat_map (λ f. f.1) floods))

abbrev pub operations_at : Intention → Peers → Bytes → Option Peer → List Data
operations_at i peers g None = []
operations_at i peers g (Some peer) = operations_of i peers g (ports_at i g peer)

-- what a gateway is asked to do, where these are found
abbrev pub operations : Intention → Peers → Bytes → List Data
operations i peers g = operations_at i peers g (maps.get peers g)

-- the request of operations
abbrev pub request_text : List Data → Bytes
request_text operations = message_text (Request (codes "transact") (list (string (codes "hardware_vtep") ∷ operations)) (number (unsigned 2)))

-- where there are any
abbrev pub request_of : List Data → Option Bytes
request_of [] = None
request_of (d ∷ ds) = Some (request_text (d ∷ ds))
