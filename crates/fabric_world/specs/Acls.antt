-- The fields of the entries of access lists.
use Rattle.std.specs.Prelude.{◌≡◌, ◌≤◌, ◌<◌, ◌^◌, ℕ, Bool, true, Some, None, is_some, IfSome}
use Rattle.vtep_base.specs.Reading.{Bytes}
use Rattle.vtep_rows.specs.Row.{is_hex_word}
use Rattle.fabric_world.specs.declared.fields.AclFields.{AclFields}
use Rattle.fabric_world.specs.declared.fields.AclField.{AclField}
use Rattle.fabric_world.specs.declared.fields.AclField.TheVariants.{SourceMac, DestMac, Ethertype, SourceIp, SourceMask, DestIp, DestMask, Protocol, IcmpType, IcmpCode, SourcePortMin, SourcePortMax, DestPortMin, DestPortMax, TcpFlags, TcpFlagsMask}

-- no field is given
abbrev pub no_fields : AclFields
no_fields = record {
  source_mac = None;
  dest_mac = None;
  ethertype = None;
  source_ip = None;
  source_mask = None;
  dest_ip = None;
  dest_mask = None;
  protocol = None;
  icmp_type = None;
  icmp_code = None;
  source_port_min = None;
  source_port_max = None;
  dest_port_min = None;
  dest_port_max = None;
  tcp_flags = None;
  tcp_flags_mask = None;
}

-- the field of this name is given
abbrev pub has_field : AclFields → AclField → Bool
has_field f (SourceMac m) = is_some f.source_mac
has_field f (DestMac m) = is_some f.dest_mac
has_field f (Ethertype t) = is_some f.ethertype
has_field f (SourceIp ip) = is_some f.source_ip
has_field f (SourceMask ip) = is_some f.source_mask
has_field f (DestIp ip) = is_some f.dest_ip
has_field f (DestMask ip) = is_some f.dest_mask
has_field f (Protocol n) = is_some f.protocol
has_field f (IcmpType n) = is_some f.icmp_type
has_field f (IcmpCode n) = is_some f.icmp_code
has_field f (SourcePortMin n) = is_some f.source_port_min
has_field f (SourcePortMax n) = is_some f.source_port_max
has_field f (DestPortMin n) = is_some f.dest_port_min
has_field f (DestPortMax n) = is_some f.dest_port_max
has_field f (TcpFlags n) = is_some f.tcp_flags
has_field f (TcpFlagsMask n) = is_some f.tcp_flags_mask

abbrev pub with_field : AclFields → AclField → AclFields
with_field f (SourceMac m) = record f { source_mac = Some m }
with_field f (DestMac m) = record f { dest_mac = Some m }
with_field f (Ethertype t) = record f { ethertype = Some t }
with_field f (SourceIp ip) = record f { source_ip = Some ip }
with_field f (SourceMask ip) = record f { source_mask = Some ip }
with_field f (DestIp ip) = record f { dest_ip = Some ip }
with_field f (DestMask ip) = record f { dest_mask = Some ip }
with_field f (Protocol n) = record f { protocol = Some n }
with_field f (IcmpType n) = record f { icmp_type = Some n }
with_field f (IcmpCode n) = record f { icmp_code = Some n }
with_field f (SourcePortMin n) = record f { source_port_min = Some n }
with_field f (SourcePortMax n) = record f { source_port_max = Some n }
with_field f (DestPortMin n) = record f { dest_port_min = Some n }
with_field f (DestPortMax n) = record f { dest_port_max = Some n }
with_field f (TcpFlags n) = record f { tcp_flags = Some n }
with_field f (TcpFlagsMask n) = record f { tcp_flags_mask = Some n }

-- ---- what the columns allow

abbrev pub IsEthertype : Bytes → Type 0
IsEthertype t = is_hex_word t ≡ true

-- the nine flags of TCP
abbrev pub AreFlags : ℕ → Type 0
AreFlags n = n ≤ 511

-- the column of the field allows the value, where that does not follow from its type
abbrev pub IsAllowed : AclField → Type 0
IsAllowed (Ethertype t) = IsEthertype t
IsAllowed (TcpFlags n) = AreFlags n
IsAllowed (TcpFlagsMask n) = AreFlags n
IsAllowed _ = Unit {0}

abbrev pub AreAllowed : AclFields → Type 0
AreAllowed f = IfSome f.ethertype IsEthertype × IfSome f.tcp_flags AreFlags × IfSome f.tcp_flags_mask AreFlags

-- ---- the ranges of the types

abbrev pub IsMac : ℕ → Type 0
IsMac n = n < 2 ^ 48

abbrev pub IsIp : ℕ → Type 0
IsIp n = n < 2 ^ 32

abbrev pub IsByte : ℕ → Type 0
IsByte n = n < 2 ^ 8

abbrev pub IsPort : ℕ → Type 0
IsPort n = n < 2 ^ 16

abbrev pub AreMacs : AclFields → Type 0
AreMacs f = IfSome f.source_mac IsMac × IfSome f.dest_mac IsMac

abbrev pub AreIps : AclFields → Type 0
AreIps f = IfSome f.source_ip IsIp × IfSome f.source_mask IsIp × IfSome f.dest_ip IsIp × IfSome f.dest_mask IsIp

abbrev pub AreNumbers : AclFields → Type 0
AreNumbers f = IfSome f.protocol IsByte × IfSome f.icmp_type IsByte × IfSome f.icmp_code IsByte

abbrev pub ArePorts : AclFields → Type 0
ArePorts f = IfSome f.source_port_min IsPort × IfSome f.source_port_max IsPort × IfSome f.dest_port_min IsPort × IfSome f.dest_port_max IsPort

-- each value that is given is one that its column allows
abbrev pub AreValues : AclFields → Type 0
AreValues f = AreAllowed f × AreMacs f × AreIps f × AreNumbers f × ArePorts f
