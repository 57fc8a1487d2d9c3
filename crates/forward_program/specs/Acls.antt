-- Access lists, as the rows of a gateway have them (vtep(5), ACL and ACL_entry).
use Rattle.std.specs.Prelude.{ℕ, ◌+◌, ◌*◌, ◌^◌, nat_lt, if◌then◌else◌, List, [], ◌∷◌, take, drop, filter_map, Option, Some, None, option_and_then, option_map, unwrap_or, codes}
use Rattle.vtep_base.specs.Reading.{Bytes, same_bytes}
use Rattle.vtep_base.specs.Addresses.{hex_value}
use Rattle.vtep_base.specs.declared.shapes.Action.{Action}
use Rattle.vtep_base.specs.declared.shapes.Action.TheVariants.{Permit, Deny}
use Rattle.vtep_base.specs.declared.shapes.Direction.{Direction}
use Rattle.vtep_base.specs.declared.shapes.Direction.TheVariants.{Ingress, Egress}
use Rattle.vtep_schema.specs.declared.Column.{Column}
use Rattle.vtep_schema.specs.declared.Table.TheVariants.{AclEntry}
use Rattle.vtep_schema.specs.declared.Column.TheVariants.{AclEntries, EntrySequence, EntryDirection, EntryAction, EntrySourceMac, EntryDestMac, EntryEthertype, EntrySourceIp, EntrySourceMask, EntryDestIp, EntryDestMask, EntryProtocol, EntryIcmpType, EntryIcmpCode, EntrySourcePortMin, EntrySourcePortMax, EntryDestPortMin, EntryDestPortMax, EntryTcpFlags, EntryTcpFlagsMask}
use Rattle.vtep_rows.specs.Row.{Contents, text_at, number_at, ids_at}
use Rattle.vtep_rows.specs.Rows.{Rows, row_at}
use Rattle.acl_rules.specs.declared.entry.Entry.{Entry}
use Rattle.acl_rules.specs.Permits.{in_order}
use Rattle.forward_program.specs.Readings.{text_in_row, ip_at, mac_at}

-- ---- a column of an entry

abbrev pub below : ℕ → ℕ → Option ℕ
below bound n = if nat_lt n bound then Some n else None

-- the number in a column, where it is below a bound
abbrev pub number_below : ℕ → Contents → Column → Option ℕ
number_below bound row c = option_and_then (below bound) (number_at row c)

-- behind the number of the digits so far, one more
abbrev pub hex_step : Option ℕ → ℕ → Option ℕ
hex_step so_far c = option_and_then (λ n. option_map (λ d. 16 * n + d) (hex_value c)) so_far

-- the number that four hexadecimal digits spell
abbrev pub four_digits : Bytes → Option ℕ
four_digits (a ∷ b ∷ c ∷ d ∷ []) = hex_step (hex_step (hex_step (hex_step (Some 0) a) b) c) d
four_digits _ = None

-- `0x` and four hexadecimal digits
abbrev pub hex_word : Bytes → Option ℕ
hex_word t = if same_bytes (take 2 t) (codes "0x") then four_digits (drop 2 t) else None

abbrev pub ethertype_at : Contents → Option ℕ
ethertype_at row = option_and_then hex_word (text_in_row row EntryEthertype)

abbrev pub direction_of : Contents → Direction
direction_of row = if same_bytes (text_at row EntryDirection) (codes "egress") then Egress else Ingress

abbrev pub action_of : Contents → Action
action_of row = if same_bytes (text_at row EntryAction) (codes "deny") then Deny else Permit

-- ---- an entry, and those of an ACL

-- a row of ACL_entry; without a number it stands at 0
abbrev pub entry_of : ℕ → Contents → Entry
entry_of id row = record {
  id = id;
  sequence = unwrap_or (number_below (2 ^ 32) row EntrySequence) 0;
  direction = direction_of row;
  action = action_of row;
  source_mac = mac_at row EntrySourceMac;
  dest_mac = mac_at row EntryDestMac;
  ethertype = ethertype_at row;
  source_ip = ip_at row EntrySourceIp;
  source_mask = ip_at row EntrySourceMask;
  dest_ip = ip_at row EntryDestIp;
  dest_mask = ip_at row EntryDestMask;
  protocol = number_below (2 ^ 8) row EntryProtocol;
  icmp_type = number_below (2 ^ 8) row EntryIcmpType;
  icmp_code = number_below (2 ^ 8) row EntryIcmpCode;
  source_port_min = number_below (2 ^ 16) row EntrySourcePortMin;
  source_port_max = number_below (2 ^ 16) row EntrySourcePortMax;
  dest_port_min = number_below (2 ^ 16) row EntryDestPortMin;
  dest_port_max = number_below (2 ^ 16) row EntryDestPortMax;
  tcp_flags = number_below (2 ^ 16) row EntryTcpFlags;
  tcp_flags_mask = number_below (2 ^ 16) row EntryTcpFlagsMask;
}

abbrev pub entry_at : Rows → ℕ → Option Entry
entry_at r id = option_map (entry_of id) (row_at r (AclEntry, id))

-- the entries that a row of ACL names, by sequence and then by identifier
abbrev pub entries_at : Rows → Contents → List Entry
entries_at r row = in_order (filter_map (entry_at r) (ids_at row AclEntries))
