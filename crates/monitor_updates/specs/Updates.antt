-- Row updates as they are sent (RFC 7047, section 4.1.6).
use Rattle.std.specs.Prelude.{List, [], ◌∷◌, map, filter, filter_map, Option, Some, None, codes}
use Rattle.serde_json.specs.Data.{Data, object, Members, no_members, member}
use Rattle.vtep_base.specs.Reading.{Bytes}
use Rattle.json_notation.specs.Json.{list, fields, to_members}
use Rattle.ovsdb_values.specs.Notation.{id_text, datum_json}
use Rattle.vtep_schema.specs.declared.Table.{Table}
use Rattle.vtep_schema.specs.Tables.{column_name, table_name, tables, same_table}
use Rattle.vtep_rows.specs.Rows.{Rows, Key}
use Rattle.monitor_updates.specs.declared.requests.MonitorRequest.{MonitorRequest}
use Rattle.monitor_updates.specs.Noted.{Cut, Update, Insert, Delete, Modify, noted, opening}

abbrev pub members_json : Cut → List (Bytes × Data)
members_json cut = map (λ e. (column_name e.0, datum_json e.1)) cut

abbrev pub cut_json : Cut → Data
cut_json cut = fields (members_json cut)

abbrev pub update_json : Update → Data
update_json (Insert new) = fields ((codes "new", cut_json new) ∷ [])
update_json (Delete old) = fields ((codes "old", cut_json old) ∷ [])
update_json (Modify before new) = fields ((codes "new", cut_json new) ∷ (codes "old", cut_json before) ∷ [])

-- the rows of a table, by identifier
abbrev pub in_table : Table → List (Key × Update) → List (Bytes × Data)
in_table t us = map (λ u. (id_text u.0.1, update_json u.1)) (filter (λ u. same_table u.0.0 t) us)

-- a table's member, where it has any row
abbrev pub table_member : Table → Members → Option (Bytes × Data)
table_member t no_members = None
table_member t (member id row rows) = Some (table_name t, object (member id row rows))

-- the tables' members, of the rows of each
abbrev pub tables_json : (Table → List (Bytes × Data)) → Members
tables_json rows = to_members (filter_map (λ t. table_member t (to_members (rows t))) tables)

abbrev pub updates_json : List (Key × Update) → Data
updates_json us = object (tables_json (λ t. in_table t us))

-- the answer to the request
abbrev pub opening_json : List MonitorRequest → Rows → Data
opening_json request r = updates_json (opening request r)

-- the params of an update, where there is anything to tell
abbrev pub params_json : Data → List (Key × Update) → Option Data
params_json id [] = None
params_json id (u ∷ us) = Some (list (id ∷ updates_json (u ∷ us) ∷ []))

abbrev pub notice_json : Data → List MonitorRequest → Rows → Rows → Option Data
notice_json id request old new = params_json id (noted request old new)
