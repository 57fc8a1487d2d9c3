-- What is told of one row.
use Rattle.std.specs.Prelude.{ℕ, Bool, true, false, List, [], ◌∷◌, filter_map, if◌then◌else◌, Option, Some, None, option_map, option_and_then}
use Rattle.serde_json.specs.Data.{Data, Members, put}
use Rattle.vtep_base.specs.Reading.{Bytes}
use Rattle.ovsdb_values.specs.Notation.{id_text}
use Rattle.vtep_schema.specs.declared.Table.{Table}
use Rattle.vtep_schema.specs.Tables.{same_table}
use Rattle.vtep_rows.specs.Row.{Contents}
use Rattle.vtep_rows.specs.Rows.{Rows, Key, row_at}
use Rattle.vtep_rows.specs.declared.differences.RowChange.{RowChange}
use Rattle.monitor_updates.specs.declared.requests.MonitorRequest.{MonitorRequest}
use Rattle.monitor_updates.specs.Noted.{Cut, cut, Update, Insert, update, wanted, initially, asked_of}
use Rattle.monitor_updates.specs.Updates.{update_json}

-- a row as a table's request sees it
abbrev pub cut_by : Option MonitorRequest → Option Contents → Option Cut
cut_by asked row = option_and_then (λ a. option_map (cut a.columns) row) asked

abbrev pub told_by : Option MonitorRequest → Option Contents → Option Contents → Option Update
told_by asked old new = option_and_then (wanted asked) (update (cut_by asked old) (cut_by asked new))

-- a row of a change, as it is told
abbrev pub told_member : Table → Option MonitorRequest → RowChange → Option (Bytes × Data)
told_member t asked c = if same_table c.table t then option_map (λ u. (id_text c.id, update_json u)) (told_by asked c.old c.new) else None

abbrev pub initial_by : Option MonitorRequest → Option Contents → Option Update
initial_by asked row = initially asked (cut_by asked row)

-- some value is there
abbrev pub is_any : Cut → Bool
is_any [] = false
is_any (e ∷ cut) = true

-- the rows of a change that are told
abbrev pub told_row : List MonitorRequest → RowChange → Option (Key × Update)
told_row request c = option_map (λ u. ((c.table, c.id), u)) (told_by (asked_of request c.table) c.old c.new)

abbrev pub noted_in : List MonitorRequest → List RowChange → List (Key × Update)
noted_in request change = filter_map (told_row request) change

-- with one more member, where there is one
abbrev pub with_some : Option (Bytes × Data) → Members → Members
with_some None ms = ms
with_some (Some m) ms = put m.0 m.1 ms

-- the rows of a table that are there, as a new monitor is told of them
abbrev pub initial_member : Table → Option MonitorRequest → Rows → ℕ → Option (Bytes × Data)
initial_member t asked r id = option_map (λ u. (id_text id, update_json u)) (initial_by asked (row_at r (t, id)))

abbrev pub there_member : Table → MonitorRequest → Rows → ℕ → Option (Bytes × Data)
there_member t asked r id = option_map (λ row. (id_text id, update_json (Insert (cut asked.columns row)))) (row_at r (t, id))
