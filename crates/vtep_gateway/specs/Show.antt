-- The text of `show`: one line for each fact of the forwarding state, those of ACLs apart, by number, by port and VLAN, or by the switch's name and the address.
use Rattle.std.specs.Prelude.{ℕ, List, [], ◌++◌, map, flat_map, Option, Some, None, unwrap_or, option_map, codes, decimal}
use Rattle.std.specs.declared.cmp.Ordering.{Ordering}
use Rattle.serde_json.specs.Data.{string}
use Rattle.serde_json.specs.Written.{compact_text}
use Rattle.vtep_base.specs.Reading.{Bytes}
use Rattle.vtep_base.specs.Texts.{ipv4_text}
use Rattle.vtep_base.specs.Addresses.{mac_text}
use Rattle.vtep_base.specs.Maps as maps
use Rattle.vtep_base.specs.Maps.{Map}
use Rattle.vtep_schema.specs.declared.Table.{Table}
use Rattle.vtep_schema.specs.declared.Table.TheVariants.{LogicalSwitch, Acl}
use Rattle.vtep_schema.specs.declared.Column.{Column}
use Rattle.vtep_schema.specs.declared.Column.TheVariants.{LogicalName, AclName}
use Rattle.vtep_rows.specs.Row.{text_at, put_all}
use Rattle.vtep_rows.specs.Rows.{Rows, row_at}
use Rattle.forward_program.specs.Readings.{own_ip}
use Rattle.forward_program.specs.declared.facts.Fact.{Fact}
use Rattle.forward_program.specs.declared.facts.Fact.TheVariants as fact
use Rattle.forward_program.specs.declared.facts.Place.{Place}
use Rattle.forward_program.specs.declared.facts.Place.TheVariants.{Here, There}
use Rattle.vtep_gateway.specs.declared.lines.Line.{Line}
use Rattle.vtep_gateway.specs.declared.lines.Line.TheVariants as line
use Rattle.vtep_gateway.specs.contracts.lines.LineOrd.TheImpl as line_order

-- ---- names

-- the text in a column of a row, or the empty text
abbrev pub row_name : Rows → Table → Column → ℕ → Bytes
row_name r t c id = unwrap_or (option_map (λ row. text_at row c) (row_at r (t, id))) []

abbrev pub switch_name : Rows → ℕ → Bytes
switch_name r switch = row_name r LogicalSwitch LogicalName switch

abbrev pub acl_name : Rows → ℕ → Bytes
acl_name r acl = row_name r Acl AclName acl

-- a name as a JSON text (RFC 8259, section 7)
abbrev pub json_text : Bytes → Bytes
json_text name = compact_text (string name)

-- ---- lines

abbrev pub acl_text : Rows → ℕ → Bytes
acl_text r acl = codes " acl " ++ json_text (acl_name r acl)

abbrev pub place_text : Place → Bytes
place_text (Here port vlan) = codes " here " ++ port ++ codes " " ++ decimal vlan
place_text (There ip) = codes " there " ++ ipv4_text ip

-- a group address, or what stands for all destinations that are not known
abbrev pub group_text : Option ℕ → Bytes
group_text None = codes "unknown-dst"
group_text (Some mac) = mac_text mac

abbrev pub ip_text : ℕ → Bytes
ip_text ip = codes " " ++ ipv4_text ip

-- nothing is written of an ACL but its name, at the bindings that list it
abbrev pub line_of : Rows → Fact → Bytes
line_of r (fact.Vni vni switch) = codes "vni " ++ decimal vni ++ codes " " ++ json_text (switch_name r switch) ++ codes "\n"
line_of r (fact.Bind port vlan switch lists) = codes "bind " ++ port ++ codes " " ++ decimal vlan ++ codes " " ++ json_text (switch_name r switch) ++ flat_map (acl_text r) lists ++ codes "\n"
line_of r (fact.Acl acl entries) = []
line_of r (fact.Mac switch mac place) = codes "mac " ++ json_text (switch_name r switch) ++ codes " " ++ mac_text mac ++ place_text place ++ codes "\n"
line_of r (fact.Flood switch group addresses) = codes "flood " ++ json_text (switch_name r switch) ++ codes " " ++ group_text group ++ flat_map ip_text addresses ++ codes "\n"

-- ---- their order

abbrev pub line_cmp : Line → Line → Ordering
line_cmp = (line_order.ghosts).cmp

-- what the line of a fact is of
abbrev pub key_of : Rows → Fact → Line
key_of r (fact.Vni vni switch) = line.Vni vni
key_of r (fact.Bind port vlan switch lists) = line.Bind port vlan
key_of r (fact.Acl acl entries) = line.Acl acl
key_of r (fact.Mac switch mac place) = line.Mac (switch_name r switch) mac
key_of r (fact.Flood switch group addresses) = line.Flood (switch_name r switch) group

abbrev pub entry_of : Rows → Fact → Line × Bytes
entry_of r f = (key_of r f, line_of r f)

-- the lines by what they are of
abbrev pub Lines : Type 0
Lines = Map line_cmp Bytes

-- those that are there, and the lines of facts
abbrev pub with_lines : Rows → Lines → List Fact → Lines
with_lines r lines facts = put_all lines (map (entry_of r) facts)

abbrev pub lines_of : Rows → List Fact → Lines
lines_of r facts = with_lines r maps.empty facts

-- ---- the text

-- the name of the gateway and its own address
abbrev pub heading : Bytes → Rows → Bytes
heading name r = codes "show " ++ name ++ codes " " ++ ipv4_text (own_ip r) ++ codes "\n"

abbrev pub show_text : Bytes → Rows → List Fact → Bytes
show_text name r facts = heading name r ++ flat_map (λ e. e.1) (lines_of r facts).list
