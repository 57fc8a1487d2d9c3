-- The tables and columns of the database: one line each.
use Rattle.std.specs.Prelude.{ℕ, ◌==◌, Bool, true, false, ◌&&◌, ◌||◌, if◌then◌else◌, List, [], ◌∷◌, flat_map, Option, Some, None, option_map, codes}
use Rattle.std.specs.List.{list_any}
use Rattle.std.specs.Ordering.{nat_cmp, eq_by_cmp}
use Rattle.std.specs.declared.cmp.Ordering.{Ordering}
use denote.Enum.Declared.{tag_of}
use Rattle.vtep_base.specs.Reading.{Bytes, same_bytes}
use Rattle.vtep_base.specs.declared.shapes.Shape.{Shape}
use Rattle.vtep_base.specs.declared.shapes.Kind.{Kind}
use Rattle.vtep_base.specs.declared.shapes.Kind.TheVariants as kind
use Rattle.vtep_schema.specs.declared.rules.Domain.{Domain}
use Rattle.vtep_schema.specs.declared.rules.Domain.TheVariants as domain
use Rattle.vtep_schema.specs.declared.rules.Words.{Words}
use Rattle.vtep_schema.specs.declared.rules.Words.TheVariants.{Encapsulations, ReplicationModes, Directions, Actions}
use Rattle.vtep_schema.specs.declared.rules.Given.{Given}
use Rattle.vtep_schema.specs.declared.rules.Given.TheVariants.{Optional, Required, Fixed}
use Rattle.vtep_schema.specs.declared.rules.ColumnRule.{ColumnRule}
use Rattle.vtep_schema.specs.declared.rules.TableRule.{TableRule}
use Rattle.vtep_schema.specs.contracts.Table as table
use Rattle.vtep_schema.specs.contracts.Column as column
use Rattle.vtep_schema.specs.declared.Table.{Table}
use Rattle.vtep_schema.specs.declared.Column.{Column}
use Rattle.vtep_schema.specs.declared.Table.TheVariants.{Global, PhysicalSwitch, PhysicalPort, LogicalSwitch, UcastMacsLocal, UcastMacsRemote, McastMacsLocal, McastMacsRemote, PhysicalLocatorSet, PhysicalLocator, Acl, AclEntry}
use Rattle.vtep_schema.specs.declared.Column.TheVariants.{GlobalSwitches, SwitchName, SwitchDescription, SwitchPorts, SwitchTunnelIps, PortName, PortDescription, PortVlanBindings, PortAclBindings, LogicalName, LogicalDescription, LogicalTunnelKey, LogicalReplicationMode, UcastLocalMac, UcastLocalLogicalSwitch, UcastLocalLocator, UcastLocalIpaddr, UcastRemoteMac, UcastRemoteLogicalSwitch, UcastRemoteLocator, UcastRemoteIpaddr, McastLocalMac, McastLocalLogicalSwitch, McastLocalLocatorSet, McastLocalIpaddr, McastRemoteMac, McastRemoteLogicalSwitch, McastRemoteLocatorSet, McastRemoteIpaddr, SetLocators, LocatorEncapsulationType, LocatorDstIp, AclName, AclEntries, EntrySequence, EntryDirection, EntryAction, EntrySourceMac, EntryDestMac, EntryEthertype, EntrySourceIp, EntrySourceMask, EntryDestIp, EntryDestMask, EntryProtocol, EntryIcmpType, EntryIcmpCode, EntrySourcePortMin, EntrySourcePortMax, EntryDestPortMin, EntryDestPortMax, EntryTcpFlags, EntryTcpFlagsMask}

-- the place of a table and of a column in the enumerations, which decides order and equality
abbrev pub table_place : Table → ℕ
table_place t = tag_of table.the_type t

abbrev pub column_place : Column → ℕ
column_place c = tag_of column.the_type c

abbrev pub table_cmp : Table → Table → Ordering
table_cmp a b = nat_cmp (table_place a) (table_place b)

abbrev pub column_cmp : Column → Column → Ordering
column_cmp a b = nat_cmp (column_place a) (column_place b)

abbrev pub same_table : Table → Table → Bool
same_table = eq_by_cmp table_cmp

abbrev pub same_column : Column → Column → Bool
same_column = eq_by_cmp column_cmp

-- the texts, in the order of their bytes
abbrev pub words_of : Words → List Bytes
words_of Encapsulations = codes "vxlan_over_ipv4" ∷ []
words_of ReplicationModes = codes "service_node" ∷ codes "source_node" ∷ []
words_of Directions = codes "egress" ∷ codes "ingress" ∷ []
words_of Actions = codes "deny" ∷ codes "permit" ∷ []

-- a line of the table of columns: the name and the rule
pub record ColumnLine : Type 0 where
  pub name : Bytes
  pub rule : ColumnRule

-- a line of the table of tables: the name, the rule, the unique keys and the columns
pub record TableLine : Type 0 where
  pub name : Bytes
  pub rule : TableRule
  pub unique : List (List Column)
  pub columns : List Column

abbrev pub set : ℕ → ℕ → Bytes → Domain → Given → ColumnLine
set least most name domain given = record { name = name; rule = record { key = domain; value = None; least = least; most = most; given = given } }

-- exactly one
abbrev pub plain : Bytes → Domain → Given → ColumnLine
plain = set 1 1

-- none or one
abbrev pub opt : Bytes → Domain → ColumnLine
opt name domain = set 0 1 name domain Optional

abbrev pub map_to : Bytes → Domain → Domain → ColumnLine
map_to name key value = record { name = name; rule = record { key = key; value = Some value; least = 0; most = 4096; given = Optional } }

abbrev pub whole : ℕ → ℕ → Domain
whole least most = domain.Whole least most

abbrev pub table_line : Table → TableLine
table_line Global = record { name = codes "Global"; rule = record { root = true; most = 1; open_to_sessions = false }; unique = []; columns = GlobalSwitches ∷ [] }
table_line PhysicalSwitch = record { name = codes "Physical_Switch"; rule = record { root = true; most = 1; open_to_sessions = false }; unique = (SwitchName ∷ []) ∷ []; columns = SwitchName ∷ SwitchDescription ∷ SwitchPorts ∷ SwitchTunnelIps ∷ [] }
table_line PhysicalPort = record { name = codes "Physical_Port"; rule = record { root = false; most = 64; open_to_sessions = false }; unique = (PortName ∷ []) ∷ []; columns = PortName ∷ PortDescription ∷ PortVlanBindings ∷ PortAclBindings ∷ [] }
table_line LogicalSwitch = record { name = codes "Logical_Switch"; rule = record { root = true; most = 1024; open_to_sessions = true }; unique = (LogicalName ∷ []) ∷ (LogicalTunnelKey ∷ []) ∷ []; columns = LogicalName ∷ LogicalDescription ∷ LogicalTunnelKey ∷ LogicalReplicationMode ∷ [] }
table_line UcastMacsLocal = record { name = codes "Ucast_Macs_Local"; rule = record { root = true; most = 32768; open_to_sessions = false }; unique = (UcastLocalLogicalSwitch ∷ UcastLocalMac ∷ []) ∷ []; columns = UcastLocalMac ∷ UcastLocalLogicalSwitch ∷ UcastLocalLocator ∷ UcastLocalIpaddr ∷ [] }
table_line UcastMacsRemote = record { name = codes "Ucast_Macs_Remote"; rule = record { root = true; most = 32768; open_to_sessions = true }; unique = (UcastRemoteLogicalSwitch ∷ UcastRemoteMac ∷ []) ∷ []; columns = UcastRemoteMac ∷ UcastRemoteLogicalSwitch ∷ UcastRemoteLocator ∷ UcastRemoteIpaddr ∷ [] }
table_line McastMacsLocal = record { name = codes "Mcast_Macs_Local"; rule = record { root = true; most = 32768; open_to_sessions = false }; unique = (McastLocalLogicalSwitch ∷ McastLocalMac ∷ []) ∷ []; columns = McastLocalMac ∷ McastLocalLogicalSwitch ∷ McastLocalLocatorSet ∷ McastLocalIpaddr ∷ [] }
table_line McastMacsRemote = record { name = codes "Mcast_Macs_Remote"; rule = record { root = true; most = 32768; open_to_sessions = true }; unique = (McastRemoteLogicalSwitch ∷ McastRemoteMac ∷ []) ∷ []; columns = McastRemoteMac ∷ McastRemoteLogicalSwitch ∷ McastRemoteLocatorSet ∷ McastRemoteIpaddr ∷ [] }
table_line PhysicalLocatorSet = record { name = codes "Physical_Locator_Set"; rule = record { root = false; most = 32768; open_to_sessions = true }; unique = []; columns = SetLocators ∷ [] }
table_line PhysicalLocator = record { name = codes "Physical_Locator"; rule = record { root = false; most = 32768; open_to_sessions = true }; unique = (LocatorEncapsulationType ∷ LocatorDstIp ∷ []) ∷ []; columns = LocatorEncapsulationType ∷ LocatorDstIp ∷ [] }
table_line Acl = record { name = codes "ACL"; rule = record { root = false; most = 256; open_to_sessions = true }; unique = (AclName ∷ []) ∷ []; columns = AclName ∷ AclEntries ∷ [] }
table_line AclEntry = record { name = codes "ACL_entry"; rule = record { root = false; most = 32768; open_to_sessions = true }; unique = []; columns = EntrySequence ∷ EntryDirection ∷ EntryAction ∷ EntrySourceMac ∷ EntryDestMac ∷ EntryEthertype ∷ EntrySourceIp ∷ EntrySourceMask ∷ EntryDestIp ∷ EntryDestMask ∷ EntryProtocol ∷ EntryIcmpType ∷ EntryIcmpCode ∷ EntrySourcePortMin ∷ EntrySourcePortMax ∷ EntryDestPortMin ∷ EntryDestPortMax ∷ EntryTcpFlags ∷ EntryTcpFlagsMask ∷ [] }

abbrev pub column_line : Column → ColumnLine
column_line GlobalSwitches = opt (codes "switches") (domain.Row PhysicalSwitch)
column_line SwitchName = plain (codes "name") domain.Text Optional
column_line SwitchDescription = plain (codes "description") domain.Text Optional
column_line SwitchPorts = set 0 64 (codes "ports") (domain.Row PhysicalPort) Optional
column_line SwitchTunnelIps = opt (codes "tunnel_ips") domain.Ipv4
column_line PortName = plain (codes "name") domain.Text Optional
column_line PortDescription = plain (codes "description") domain.Text Optional
column_line PortVlanBindings = map_to (codes "vlan_bindings") (whole 0 4095) (domain.Row LogicalSwitch)
column_line PortAclBindings = map_to (codes "acl_bindings") (whole 0 4095) (domain.Row Acl)
column_line LogicalName = plain (codes "name") domain.Text Optional
column_line LogicalDescription = plain (codes "description") domain.Text Optional
column_line LogicalTunnelKey = opt (codes "tunnel_key") (whole 0 16777215)
column_line LogicalReplicationMode = opt (codes "replication_mode") (domain.Word ReplicationModes)
column_line UcastLocalMac = plain (codes "MAC") domain.SingleMac Required
column_line UcastLocalLogicalSwitch = plain (codes "logical_switch") (domain.Row LogicalSwitch) Required
column_line UcastLocalLocator = plain (codes "locator") (domain.Row PhysicalLocator) Required
column_line UcastLocalIpaddr = plain (codes "ipaddr") domain.Text Optional
column_line UcastRemoteMac = plain (codes "MAC") domain.SingleMac Required
column_line UcastRemoteLogicalSwitch = plain (codes "logical_switch") (domain.Row LogicalSwitch) Required
column_line UcastRemoteLocator = plain (codes "locator") (domain.Row PhysicalLocator) Required
column_line UcastRemoteIpaddr = plain (codes "ipaddr") domain.Text Optional
column_line McastLocalMac = plain (codes "MAC") domain.GroupMac Required
column_line McastLocalLogicalSwitch = plain (codes "logical_switch") (domain.Row LogicalSwitch) Required
column_line McastLocalLocatorSet = plain (codes "locator_set") (domain.Row PhysicalLocatorSet) Required
column_line McastLocalIpaddr = plain (codes "ipaddr") domain.Text Optional
column_line McastRemoteMac = plain (codes "MAC") domain.GroupMac Required
column_line McastRemoteLogicalSwitch = plain (codes "logical_switch") (domain.Row LogicalSwitch) Required
column_line McastRemoteLocatorSet = plain (codes "locator_set") (domain.Row PhysicalLocatorSet) Required
column_line McastRemoteIpaddr = plain (codes "ipaddr") domain.Text Optional
column_line SetLocators = set 1 64 (codes "locators") (domain.Row PhysicalLocator) Fixed
column_line LocatorEncapsulationType = plain (codes "encapsulation_type") (domain.Word Encapsulations) Fixed
column_line LocatorDstIp = plain (codes "dst_ip") domain.Ipv4 Fixed
column_line AclName = plain (codes "acl_name") domain.Text Optional
column_line AclEntries = set 0 64 (codes "acl_entries") (domain.Row AclEntry) Optional
column_line EntrySequence = plain (codes "sequence") (whole 0 4294967295) Optional
column_line EntryDirection = plain (codes "direction") (domain.Word Directions) Required
column_line EntryAction = plain (codes "action") (domain.Word Actions) Required
column_line EntrySourceMac = opt (codes "source_mac") domain.Mac
column_line EntryDestMac = opt (codes "dest_mac") domain.Mac
column_line EntryEthertype = opt (codes "ethertype") domain.Ethertype
column_line EntrySourceIp = opt (codes "source_ip") domain.Ipv4
column_line EntrySourceMask = opt (codes "source_mask") domain.Ipv4
column_line EntryDestIp = opt (codes "dest_ip") domain.Ipv4
column_line EntryDestMask = opt (codes "dest_mask") domain.Ipv4
column_line EntryProtocol = opt (codes "protocol") (whole 0 255)
column_line EntryIcmpType = opt (codes "icmp_type") (whole 0 255)
column_line EntryIcmpCode = opt (codes "icmp_code") (whole 0 255)
column_line EntrySourcePortMin = opt (codes "source_port_min") (whole 0 65535)
column_line EntrySourcePortMax = opt (codes "source_port_max") (whole 0 65535)
column_line EntryDestPortMin = opt (codes "dest_port_min") (whole 0 65535)
column_line EntryDestPortMax = opt (codes "dest_port_max") (whole 0 65535)
column_line EntryTcpFlags = opt (codes "tcp_flags") (whole 0 511)
column_line EntryTcpFlagsMask = opt (codes "tcp_flags_mask") (whole 0 511)

abbrev pub tables : List Table
tables = Global ∷ PhysicalSwitch ∷ PhysicalPort ∷ LogicalSwitch ∷ UcastMacsLocal ∷ UcastMacsRemote ∷ McastMacsLocal ∷ McastMacsRemote ∷ PhysicalLocatorSet ∷ PhysicalLocator ∷ Acl ∷ AclEntry ∷ []

-- ---- what follows from the two

abbrev pub columns_of : Table → List Column
columns_of t = (table_line t).columns

abbrev pub columns : List Column
columns = flat_map columns_of tables

abbrev pub belongs : Column → Table → Bool
belongs c t = list_any (same_column c) (columns_of t)

abbrev pub named_in : {A : Type 0} → (A → Bytes) → Bytes → List A → Option A
named_in name_of name [] = None
named_in name_of name (x ∷ xs) = if same_bytes (name_of x) name then Some x else named_in name_of name xs

abbrev pub table_named : Bytes → Option Table
table_named name = named_in (λ t. (table_line t).name) name tables

abbrev pub column_named : Table → Bytes → Option Column
column_named t name = named_in (λ c. (column_line c).name) name (columns_of t)

abbrev pub kind_of : Domain → Kind
kind_of (domain.Whole least most) = kind.Integer
kind_of (domain.Row t) = kind.Id
kind_of _ = kind.Text

abbrev pub shape_of_rule : ColumnRule → Shape
shape_of_rule r = record { key = kind_of r.key; value = option_map kind_of r.value }

abbrev pub column_rule : Column → ColumnRule
column_rule c = (column_line c).rule

abbrev pub column_name : Column → Bytes
column_name c = (column_line c).name

abbrev pub table_rule : Table → TableRule
table_rule t = (table_line t).rule

abbrev pub table_name : Table → Bytes
table_name t = (table_line t).name

abbrev pub unique_keys : Table → List (List Column)
unique_keys t = (table_line t).unique

abbrev pub shape_of : Column → Shape
shape_of c = shape_of_rule (column_rule c)

-- sessions may update and mutate it
abbrev pub written_by_sessions : Column → Bool
written_by_sessions c = same_column c PortVlanBindings || same_column c PortAclBindings || list_any (λ t. (table_line t).rule.open_to_sessions && belongs c t) tables

abbrev pub is_plain : Column → Bool
is_plain c = ((column_rule c).least == 1) && ((column_rule c).most == 1)
