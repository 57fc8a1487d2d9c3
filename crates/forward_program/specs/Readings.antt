-- What the forwarding state reads of the rows of a gateway (vtep(5)).
use Rattle.std.specs.Prelude.{ℕ, pos, Bool, true, nat_lt, ◌==◌, if◌then◌else◌, List, [], filter_map, Option, Some, None, option_and_then, option_map, unwrap_or, codes}
use Rattle.std.specs.Ordering.{nat_cmp}
use Rattle.vtep_base.specs.Reading.{Bytes, same_bytes}
use Rattle.vtep_base.specs.Texts.{ipv4_of, name_of}
use Rattle.vtep_base.specs.Addresses.{mac_of}
use Rattle.vtep_base.specs.Maps as maps
use Rattle.vtep_base.specs.declared.Mode.{Mode}
use Rattle.vtep_base.specs.declared.Mode.TheVariants.{Source, Service}
use Rattle.ovsdb_values.specs.declared.atoms.Atom.{Atom}
use Rattle.ovsdb_values.specs.declared.atoms.Atom.TheVariants.{Integer, Id}
use Rattle.ovsdb_values.specs.Sets.{value_in}
use Rattle.vtep_schema.specs.declared.Column.{Column}
use Rattle.vtep_schema.specs.declared.Table.TheVariants.{PhysicalSwitch, PhysicalLocator, PhysicalLocatorSet}
use Rattle.vtep_schema.specs.declared.Column.TheVariants.{SwitchTunnelIps, PortName, PortVlanBindings, PortAclBindings, LogicalReplicationMode, UcastRemoteMac, UcastRemoteLogicalSwitch, UcastRemoteLocator, McastRemoteMac, McastRemoteLogicalSwitch, McastRemoteLocatorSet, SetLocators, LocatorDstIp}
use Rattle.vtep_rows.specs.Row.{Contents, texts_at, text_at, ids_at, pairs_at, id_in, first}
use Rattle.vtep_rows.specs.Rows.{Rows, rows_of, row_at}
use Rattle.forward_program.specs.declared.held.Lists.{Lists}
use Rattle.forward_program.specs.declared.readings.Remote.{Remote}
use Rattle.forward_program.specs.declared.readings.Group.{Group}

-- ---- a column

abbrev pub text_in_row : Contents → Column → Option Bytes
text_in_row row c = first (texts_at row c)

abbrev pub ip_at : Contents → Column → Option ℕ
ip_at row c = option_and_then ipv4_of (text_in_row row c)

abbrev pub mac_at : Contents → Column → Option ℕ
mac_at row c = option_and_then mac_of (text_in_row row c)

abbrev pub id_at : Contents → Column → Option ℕ
id_at row c = first (ids_at row c)

-- ---- the gateway's own row

-- the address in tunnel_ips
abbrev pub own_address : Rows → Option ℕ
own_address r = first (filter_map (λ e. ip_at e.1 SwitchTunnelIps) (rows_of PhysicalSwitch r))

abbrev pub own_ip : Rows → ℕ
own_ip r = unwrap_or (own_address r) 0

-- ---- a port: its bindings of VLANs, and the ACLs of each

abbrev pub port_name : Contents → Option Bytes
port_name row = option_and_then name_of (text_in_row row PortName)

abbrev pub number_and_id : Atom × Atom → Option (ℕ × ℕ)
number_and_id (Integer (pos n), Id u) = Some (n, u)
number_and_id _ = None

-- the key of a pair is no number, or one below 2^12
abbrev pub is_vlan_key : Atom → Bool
is_vlan_key (Integer (pos n)) = nat_lt n 4096
is_vlan_key _ = true

abbrev pub is_vlan : Atom × Atom → Bool
is_vlan p = is_vlan_key p.0

-- the switch of each VLAN, by VLAN
abbrev pub vlan_bindings : Contents → List (ℕ × ℕ)
vlan_bindings row = (maps.map_by nat_cmp (filter_map number_and_id (pairs_at row PortVlanBindings))).list

-- the row that a column names at a number
abbrev pub id_at_key : Contents → Column → ℕ → Option ℕ
id_at_key row c key = option_and_then id_in (value_in (pairs_at row c) (Integer (pos key)))

-- the ACL at a key of acl_bindings
abbrev pub acl_at : Contents → ℕ → Option ℕ
acl_at row key = id_at_key row PortAclBindings key

-- the ACL for all VLANs, at key 0, and that of the VLAN
abbrev pub lists_at : Contents → ℕ → Lists
lists_at row vlan = record { all = acl_at row 0; own = if vlan == 0 then None else acl_at row vlan }

-- ---- a switch

-- an absent mode counts as that of a service node
abbrev pub mode_of : Contents → Mode
mode_of row = if same_bytes (text_at row LogicalReplicationMode) (codes "source_node") then Source else Service

-- ---- remote addresses

abbrev pub remote : ℕ → ℕ → ℕ → Remote
remote switch mac locator = record { switch = switch; mac = mac; locator = locator }

abbrev pub remote_of : Contents → Option Remote
remote_of row = option_and_then (λ switch. option_and_then (λ mac. option_map (remote switch mac) (id_at row UcastRemoteLocator)) (mac_at row UcastRemoteMac)) (id_at row UcastRemoteLogicalSwitch)

abbrev pub group : ℕ → Option ℕ → ℕ → Group
group switch mac set = record { switch = switch; group = mac; set = set }

-- none stands for `unknown-dst`
abbrev pub group_in : Bytes → Option (Option ℕ)
group_in text = if same_bytes text (codes "unknown-dst") then Some None else option_map Some (mac_of text)

abbrev pub group_of : Contents → Option Group
group_of row =
    option_and_then (λ switch. option_and_then (λ mac. option_map (group switch mac) (id_at row McastRemoteLocatorSet)) (option_and_then group_in (text_in_row row McastRemoteMac)))
    (id_at row McastRemoteLogicalSwitch)

-- ---- locators

abbrev pub locator_address : Rows → ℕ → Option ℕ
locator_address r id = option_and_then (λ row. ip_at row LocatorDstIp) (row_at r (PhysicalLocator, id))

-- the address of a locator that is not the gateway's own
abbrev pub other_address : ℕ → Option ℕ → Option ℕ
other_address own None = None
other_address own (Some ip) = if ip == own then None else Some ip

abbrev pub set_locators : Rows → ℕ → List ℕ
set_locators r id = unwrap_or (option_map (λ row. ids_at row SetLocators) (row_at r (PhysicalLocatorSet, id))) []
