-- Worked texts of the schema, by computation.
use Rattle.std.proofs.Common.{◌≡◌, true, length, refl}
use Rattle.std.specs.Prelude.{codes}
use Rattle.serde_json.specs.Written.{compact_text}
use Rattle.vtep_base.specs.Reading.{same_bytes}
use Rattle.json_notation.specs.Computes.{texts}
use Rattle.vtep_schema.specs.declared.Table.TheVariants.{PhysicalLocator}
use Rattle.vtep_schema.specs.Published.{table_json, schema_json}

locator_text : same_bytes (compact_text (table_json PhysicalLocator)) (codes "{\"columns\":{\"dst_ip\":{\"mutable\":false,\"type\":{\"key\":{\"maxLength\":255,\"type\":\"string\"},\"max\":1,\"min\":1}},\"encapsulation_type\":{\"mutable\":false,\"type\":{\"key\":{\"enum\":[\"set\",[\"vxlan_over_ipv4\"]],\"type\":\"string\"},\"max\":1,\"min\":1}}},\"indexes\":[[\"encapsulation_type\",\"dst_ip\"]],\"isRoot\":false,\"maxRows\":32768}") ≡ true
unfolding texts
locator_text = refl

whole_length : length (compact_text schema_json) ≡ 5900
unfolding texts
whole_length = refl
