-- Worked requests, updates and mirrors, by computation.
use Rattle.std.proofs.Common.{◌≡◌, true, false, Some, None, Ok, Err, refl, [], ◌∷◌, List, option_map}
use Rattle.std.specs.Prelude.{codes}
use Rattle.serde_json.specs.Data.{string}
use Rattle.serde_json.specs.Read.{read}
use Rattle.serde_json.specs.Written.{compact_text}
use Rattle.vtep_base.specs.Maps as maps
use Rattle.vtep_base.specs.declared.words.Word.TheVariants.{SyntaxError, UnknownTable, UnknownColumn, NotSupported}
use Rattle.json_notation.specs.Computes.{texts}
use Rattle.ovsdb_values.specs.declared.atoms.Atom.TheVariants.{Text}
use Rattle.ovsdb_values.specs.Sets.{one}
use Rattle.vtep_schema.specs.declared.Table.TheVariants.{LogicalSwitch}
use Rattle.vtep_schema.specs.declared.Column.TheVariants.{LogicalName, LogicalDescription}
use Rattle.vtep_rows.specs.Row.{default_row, with_value}
use Rattle.vtep_rows.specs.Rows.{Rows, opening, inserted, replaced}
use Rattle.monitor_updates.specs.declared.requests.MonitorRequest.{MonitorRequest}
use Rattle.monitor_updates.specs.declared.mirror.MirrorFault.TheVariants.{Shape, Contradicts}
use Rattle.monitor_updates.specs.Requests.{request_of}
use Rattle.monitor_updates.specs.Updates.{notice_json, opening_json}
use Rattle.monitor_updates.specs.Mirrored.{Mirrored, taken}

-- ---- requests

abbrev names_alone : List MonitorRequest
names_alone = record { table = LogicalSwitch; columns = LogicalName ∷ []; initial = true; insert = true; delete = true; modify = true } ∷ []

one_column : option_map request_of (read (codes "{\"Logical_Switch\":[{\"columns\":[\"_uuid\",\"name\",\"name\"]}]}")) ≡ Some (Ok names_alone)
unfolding texts
one_column = refl

no_table : option_map request_of (read (codes "{\"Nope\":{}}")) ≡ Some (Err UnknownTable)
unfolding texts
no_table = refl

two_requests : option_map request_of (read (codes "{\"ACL\":[{},{}]}")) ≡ Some (Err NotSupported)
unfolding texts
two_requests = refl

ill_request : option_map request_of (read (codes "{\"ACL\":[{},{\"select\":1}]}")) ≡ Some (Err SyntaxError)
unfolding texts
ill_request = refl

no_column : option_map request_of (read (codes "{\"ACL\":{\"columns\":[\"name\"]}}")) ≡ Some (Err UnknownColumn)
unfolding texts
no_column = refl

-- ---- updates

abbrev before : Rows
before = opening (codes "g1") 0x0a000001

abbrev after : Rows
after = inserted before (with_value (default_row LogicalSwitch) LogicalName (one (Text (codes "red"))))

inserted_row : option_map compact_text (notice_json (string (codes "m")) names_alone before after) ≡ Some (codes "[\"m\",{\"Logical_Switch\":{\"0a000001-0000-8000-8000-000000000003\":{\"new\":{\"name\":\"red\"}}}}]")
unfolding texts
inserted_row = refl

deleted_row : option_map compact_text (notice_json (string (codes "m")) names_alone after before) ≡ Some (codes "[\"m\",{\"Logical_Switch\":{\"0a000001-0000-8000-8000-000000000003\":{\"old\":{\"name\":\"red\"}}}}]")
unfolding texts
deleted_row = refl

changed_row : option_map compact_text (notice_json (string (codes "m")) names_alone after (replaced after (LogicalSwitch, 0x0a000001000080008000000000000003) (with_value (default_row LogicalSwitch) LogicalName (one (Text (codes "blue"))))))
    ≡ Some (codes "[\"m\",{\"Logical_Switch\":{\"0a000001-0000-8000-8000-000000000003\":{\"new\":{\"name\":\"blue\"},\"old\":{\"name\":\"red\"}}}}]")
unfolding texts
changed_row = refl

-- a change of no monitored column
no_news : notice_json (string (codes "m")) names_alone after (replaced after (LogicalSwitch, 0x0a000001000080008000000000000003) (with_value (with_value (default_row LogicalSwitch) LogicalName (one (Text (codes "red")))) LogicalDescription (one (Text (codes "x"))))) ≡ None
unfolding texts
no_news = refl

there : compact_text (opening_json names_alone after) ≡ codes "{\"Logical_Switch\":{\"0a000001-0000-8000-8000-000000000003\":{\"new\":{\"name\":\"red\"}}}}"
unfolding texts
there = refl

-- ---- mirrors

abbrev nothing : Mirrored
nothing = maps.empty

not_there : option_map (taken false nothing) (read (codes "{\"Logical_Switch\":{\"0a000001-0000-8000-8000-000000000003\":{\"old\":{\"description\":\"\",\"name\":\"red\",\"replication_mode\":[\"set\",[]],\"tunnel_key\":[\"set\",[]]}}}}"))
    ≡ Some (Err (Contradicts LogicalSwitch 0x0a000001000080008000000000000003))
unfolding texts
not_there = refl

no_updates : option_map (taken false nothing) (read (codes "{\"Nope\":{}}")) ≡ Some (Err Shape)
unfolding texts
no_updates = refl

empty_table : option_map (taken false nothing) (read (codes "{\"ACL\":{}}")) ≡ Some (Ok nothing)
unfolding texts
empty_table = refl

-- one row, its identifier in upper and in lower case
two_spellings : option_map (taken true nothing) (read (codes "{\"Logical_Switch\":{\"0A000001-0000-8000-8000-000000000003\":{\"new\":{\"description\":\"\",\"name\":\"red\",\"replication_mode\":[\"set\",[]],\"tunnel_key\":[\"set\",[]]}},\"0a000001-0000-8000-8000-000000000003\":{\"new\":{\"description\":\"\",\"name\":\"red\",\"replication_mode\":[\"set\",[]],\"tunnel_key\":[\"set\",[]]}}}}"))
    ≡ Some (Err Shape)
unfolding texts
two_spellings = refl
