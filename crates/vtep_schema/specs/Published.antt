-- The schema as it is published to sessions (RFC 7047, section 3.2).
use Rattle.std.specs.Prelude.{false, List, [], ◌∷◌, ◌++◌, map, Option, Some, None, codes}
use Rattle.serde_json.specs.Data.{Data, boolean, number, unsigned, string}
use Rattle.vtep_base.specs.Reading.{Bytes}
use Rattle.json_notation.specs.Json.{list, fields}
use Rattle.vtep_schema.specs.declared.Table.{Table}
use Rattle.vtep_schema.specs.declared.Column.{Column}
use Rattle.vtep_schema.specs.declared.Table.TheVariants.{LogicalSwitch}
use Rattle.vtep_schema.specs.declared.Column.TheVariants.{LogicalName}
use Rattle.vtep_schema.specs.declared.rules.Domain.{Domain}
use Rattle.vtep_schema.specs.declared.rules.Domain.TheVariants as domain
use Rattle.vtep_schema.specs.declared.rules.Given.{Given}
use Rattle.vtep_schema.specs.declared.rules.Given.TheVariants.{Fixed}
use Rattle.vtep_schema.specs.declared.rules.ColumnRule.{ColumnRule}
use Rattle.vtep_schema.specs.Tables.{words_of, table_rule, table_name, column_rule, column_name, columns_of, unique_keys, tables}

abbrev pub words : List Bytes → Data
words ws = list (map string ws)

abbrev pub key_json : Domain → Data
key_json (domain.Whole lo hi) = fields ((codes "type", string (codes "integer")) ∷ (codes "minInteger", number (unsigned lo)) ∷ (codes "maxInteger", number (unsigned hi)) ∷ [])
key_json (domain.Row t) = fields ((codes "type", string (codes "uuid")) ∷ (codes "refTable", string (table_name t)) ∷ [])
key_json (domain.Word ws) = fields ((codes "type", string (codes "string")) ∷ (codes "enum", list (string (codes "set") ∷ words (words_of ws) ∷ [])) ∷ [])
key_json _ = fields ((codes "type", string (codes "string")) ∷ (codes "maxLength", number (unsigned 255)) ∷ [])

abbrev pub value_json : Option Domain → List (Bytes × Data)
value_json None = []
value_json (Some d) = (codes "value", key_json d) ∷ []

abbrev pub mutable_json : Given → List (Bytes × Data)
mutable_json Fixed = (codes "mutable", boolean false) ∷ []
mutable_json _ = []

abbrev pub set_json : ColumnRule → List (Bytes × Data)
set_json r = (codes "key", key_json r.key) ∷ (codes "min", number (unsigned r.least)) ∷ (codes "max", number (unsigned r.most)) ∷ []

abbrev pub type_json : ColumnRule → Data
type_json r = fields (value_json r.value ++ set_json r)

abbrev pub column_json : ColumnRule → Data
column_json r = fields (mutable_json r.given ++ (codes "type", type_json r) ∷ [])

-- the unique keys; that on tunnel_key speaks of present keys alone, and is not published
abbrev pub published_keys : Table → List (List Column)
published_keys LogicalSwitch = (LogicalName ∷ []) ∷ []
published_keys t = unique_keys t

abbrev pub table_json : Table → Data
table_json t = fields (
    (codes "columns", fields (map (λ c. (column_name c, column_json (column_rule c))) (columns_of t)))
    ∷ (codes "indexes", list (map (λ cs. words (map (λ c. column_name c) cs)) (published_keys t)))
    ∷ (codes "isRoot", boolean (table_rule t).root)
    ∷ (codes "maxRows", number (unsigned (table_rule t).most))
    ∷ [])

abbrev pub schema_json : Data
schema_json = fields (
    (codes "name", string (codes "hardware_vtep"))
    ∷ (codes "tables", fields (map (λ t. (table_name t, table_json t)) tables))
    ∷ (codes "version", string (codes "1.0.0"))
    ∷ [])
