-- The entries of the forwarding state of rows and learnt addresses: one for each row, two for each pair of vlan_bindings, and one
-- for each address that is learnt or has a remote row.
use Rattle.std.specs.Prelude.{ℕ, List, [], ◌∷◌, map, flat_map, Option, Some, None}
use Rattle.vtep_base.specs.Reading.{Bytes}
use Rattle.vtep_base.specs.Maps as maps
use Rattle.vtep_schema.specs.declared.Table.{Table}
use Rattle.vtep_schema.specs.declared.Table.TheVariants.{PhysicalPort, LogicalSwitch, UcastMacsRemote, McastMacsRemote, PhysicalLocatorSet, PhysicalLocator, Acl}
use Rattle.vtep_schema.specs.declared.Column.TheVariants.{LogicalTunnelKey, SetLocators, LocatorDstIp}
use Rattle.vtep_rows.specs.Row.{Contents, number_at, ids_at, put_all}
use Rattle.vtep_rows.specs.Rows.{Rows, rows_of}
use Rattle.mac_learning.specs.declared.Learnt.{Learnt}
use Rattle.forward_program.specs.declared.spots.Spot.{Spot}
use Rattle.forward_program.specs.declared.spots.Spot.TheVariants as spot
use Rattle.forward_program.specs.declared.spots.Part.TheVariants as part
use Rattle.forward_program.specs.declared.readings.Remote.{Remote}
use Rattle.forward_program.specs.declared.readings.Group.{Group}
use Rattle.forward_program.specs.declared.held.Held.{Held}
use Rattle.forward_program.specs.declared.held.Held.TheVariants as held
use Rattle.forward_program.specs.Readings.{mode_of, remote_of, group_of, ip_at, other_address, own_ip}
use Rattle.forward_program.specs.Acls.{entries_at}
use Rattle.forward_program.specs.Built.{Binding, binding, bindings_of}
use Rattle.forward_program.specs.Spots.{Entries}
use Rattle.forward_program.specs.Hosts.{with_learnt}

abbrev pub Entry : Type 0
Entry = Spot × Held

-- a switch, and by its tunnel_key, whether it is bound or not
abbrev pub vni_entries : ℕ → Option ℕ → List Entry
vni_entries id None = []
vni_entries id (Some vni) = (spot.Vni vni, held.Of id) ∷ []

abbrev pub switch_entries : ℕ × Contents → List Entry
switch_entries e = (spot.Switch e.0 part.Itself, held.Switch (number_at e.1 LogicalTunnelKey) (mode_of e.1)) ∷ vni_entries e.0 (number_at e.1 LogicalTunnelKey)

-- a binding by its port, and by its switch
abbrev pub binding_entries : Binding → List Entry
binding_entries b =
    (spot.Port b.port b.vlan, held.Bound b.switch b.lists)
    ∷ (spot.Switch b.switch (part.Member b.port b.vlan), held.Lists b.lists) ∷ []

-- a pair of vlan_bindings of a port
abbrev pub pair_entries : Bytes → Contents → Option (ℕ × ℕ) → List Entry
pair_entries port row None = []
pair_entries port row (Some b) = binding_entries (binding port row b)

abbrev pub port_entries : ℕ × Contents → List Entry
port_entries e = flat_map binding_entries (bindings_of e.1)

abbrev pub remote_entries : Option Remote → List Entry
remote_entries None = []
remote_entries (Some a) = (spot.Switch a.switch (part.Host a.mac), held.Host None (Some a.locator)) ∷ []

abbrev pub group_entries : Option Group → List Entry
group_entries None = []
group_entries (Some g) = (spot.Switch g.switch (part.Group g.group), held.Set g.set) ∷ []

abbrev pub set_entries : ℕ × Contents → List Entry
set_entries e = (spot.Set e.0, held.Members (ids_at e.1 SetLocators)) ∷ []

-- the own locator has none
abbrev pub address_entries : ℕ → Option ℕ → List Entry
address_entries id None = []
address_entries id (Some ip) = (spot.Locator id, held.Address ip) ∷ []

abbrev pub locator_entries : ℕ → ℕ × Contents → List Entry
locator_entries own e = address_entries e.0 (other_address own (ip_at e.1 LocatorDstIp))

-- what a row of a table has
abbrev pub row_entries : ℕ → Table → ℕ × Contents → List Entry
row_entries own PhysicalPort e = port_entries e
row_entries own LogicalSwitch e = switch_entries e
row_entries own UcastMacsRemote e = remote_entries (remote_of e.1)
row_entries own McastMacsRemote e = group_entries (group_of e.1)
row_entries own PhysicalLocatorSet e = set_entries e
row_entries own PhysicalLocator e = locator_entries own e
row_entries own _ e = []

abbrev pub table_entries : Rows → Table → List Entry
table_entries r t = flat_map (row_entries (own_ip r) t) (rows_of t r)

abbrev pub forward_tables : List Table
forward_tables = PhysicalPort ∷ LogicalSwitch ∷ UcastMacsRemote ∷ McastMacsRemote ∷ PhysicalLocatorSet ∷ PhysicalLocator ∷ []

abbrev pub all_entries : Rows → List Entry
all_entries r = flat_map (table_entries r) forward_tables

-- a row of ACL, whether a binding names it or not
abbrev pub acl_entry : Rows → ℕ × Contents → Entry
acl_entry r e = (spot.Acl e.0, held.Rules (entries_at r e.1))

abbrev pub acl_entries : Rows → List Entry
acl_entries r = map (acl_entry r) (rows_of Acl r)

abbrev pub with_acls : Rows → Entries → Entries
with_acls r m = put_all m (acl_entries r)

-- what the rows but for those of ACLs show
abbrev pub rows_shown : Rows → Entries
rows_shown r = put_all maps.empty (all_entries r)

-- what the rows and the learnt addresses show
abbrev pub shown : Rows → List Learnt → Entries
shown r l = with_learnt l (with_acls r (rows_shown r))
