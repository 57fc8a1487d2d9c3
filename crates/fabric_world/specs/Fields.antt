-- The words that give fields of entries of access lists: a name, `=` and a value.
use Rattle.std.specs.Prelude.{◌==◌, Bool, if◌then◌else◌, List, [], ◌∷◌, drop, take, position, ℕ, ◌+◌, Option, Some, None, option_map, option_and_then, codes}
use Rattle.vtep_base.specs.Addresses.{mac_of}
use Rattle.vtep_base.specs.Reading.{Bytes, same_bytes}
use Rattle.vtep_base.specs.Texts.{ipv4_of, number_upto}
pub use Rattle.vtep_rows.specs.Row.{is_hex_word}
use Rattle.fabric_world.specs.declared.fields.AclField.{AclField}
use Rattle.fabric_world.specs.declared.fields.FieldName.{FieldName}
use Rattle.fabric_world.specs.declared.fields.FieldName.TheVariants as name
use Rattle.fabric_world.specs.declared.fields.AclField.TheVariants.{SourceMac, DestMac, Ethertype, SourceIp, SourceMask, DestIp, DestMask, Protocol, IcmpType, IcmpCode, SourcePortMin, SourcePortMax, DestPortMin, DestPortMax, TcpFlags, TcpFlagsMask}

abbrev pub is_word : Bytes → Bytes → Bool
is_word a b = same_bytes a b

-- `0x` and four hexadecimal digits
abbrev pub ethertype_of : Bytes → Option Bytes
ethertype_of word = if is_hex_word word then Some word else None

abbrev pub byte_of : Bytes → Option ℕ
byte_of = number_upto 255

abbrev pub port_of : Bytes → Option ℕ
port_of = number_upto 65535

-- the nine flags of TCP
abbrev pub flags_of : Bytes → Option ℕ
flags_of = number_upto 511

abbrev pub field_text : FieldName → Bytes
field_text name.SourceMac = codes "source_mac"
field_text name.DestMac = codes "dest_mac"
field_text name.Ethertype = codes "ethertype"
field_text name.SourceIp = codes "source_ip"
field_text name.SourceMask = codes "source_mask"
field_text name.DestIp = codes "dest_ip"
field_text name.DestMask = codes "dest_mask"
field_text name.Protocol = codes "protocol"
field_text name.IcmpType = codes "icmp_type"
field_text name.IcmpCode = codes "icmp_code"
field_text name.SourcePortMin = codes "source_port_min"
field_text name.SourcePortMax = codes "source_port_max"
field_text name.DestPortMin = codes "dest_port_min"
field_text name.DestPortMax = codes "dest_port_max"
field_text name.TcpFlags = codes "tcp_flags"
field_text name.TcpFlagsMask = codes "tcp_flags_mask"

abbrev pub field_names : List FieldName
field_names =
    name.SourceMac ∷ name.DestMac ∷ name.Ethertype ∷ name.SourceIp ∷ name.SourceMask ∷ name.DestIp ∷ name.DestMask ∷ name.Protocol
    ∷ name.IcmpType ∷ name.IcmpCode ∷ name.SourcePortMin ∷ name.SourcePortMax ∷ name.DestPortMin ∷ name.DestPortMax ∷ name.TcpFlags ∷ name.TcpFlagsMask ∷ []

-- the first of the names that is this word
abbrev pub name_among : Bytes → List FieldName → Option FieldName
name_among word [] = None
name_among word (n ∷ ns) = if is_word word (field_text n) then Some n else name_among word ns

abbrev pub name_of_field : Bytes → Option FieldName
name_of_field word = name_among word field_names

-- the value of a field, by its form
abbrev pub field_value : FieldName → Bytes → Option AclField
field_value name.SourceMac word = option_map SourceMac (mac_of word)
field_value name.DestMac word = option_map DestMac (mac_of word)
field_value name.Ethertype word = option_map Ethertype (ethertype_of word)
field_value name.SourceIp word = option_map SourceIp (ipv4_of word)
field_value name.SourceMask word = option_map SourceMask (ipv4_of word)
field_value name.DestIp word = option_map DestIp (ipv4_of word)
field_value name.DestMask word = option_map DestMask (ipv4_of word)
field_value name.Protocol word = option_map Protocol (byte_of word)
field_value name.IcmpType word = option_map IcmpType (byte_of word)
field_value name.IcmpCode word = option_map IcmpCode (byte_of word)
field_value name.SourcePortMin word = option_map SourcePortMin (port_of word)
field_value name.SourcePortMax word = option_map SourcePortMax (port_of word)
field_value name.DestPortMin word = option_map DestPortMin (port_of word)
field_value name.DestPortMax word = option_map DestPortMax (port_of word)
field_value name.TcpFlags word = option_map TcpFlags (flags_of word)
field_value name.TcpFlagsMask word = option_map TcpFlagsMask (flags_of word)

abbrev pub field_named : Bytes → Bytes → Option AclField
field_named name word = option_and_then (λ n. field_value n word) (name_of_field name)

-- the name stands before the first `=`, and the value behind it
abbrev pub field_of : Bytes → Option AclField
field_of word = option_and_then (λ n. field_named (take n word) (drop (n + 1) word)) (position (λ b. b == 61) word)
