-- What requests do (RFC 7047, section 4.1).
use Rattle.std.specs.Prelude.{◌≡◌, ℕ, ⊤, Bool, ◌||◌, if◌then◌else◌, List, [], ◌∷◌, Option, Some, None, option_and_then, codes, Result, Ok, Err, is_err}
use Rattle.serde_json.specs.Data.{Data, string, object, no_members}
use Rattle.serde_json.specs.Find.{at, as_str}
use Rattle.serde_json.specs.View.{view}
use Rattle.serde_json.specs.Written.{compact_text}
use Rattle.serde_json.specs.declared.value.Value.{Value}
use Rattle.vtep_base.specs.Reading.{Bytes, same_bytes}
use Rattle.vtep_base.specs.Maps as maps
use Rattle.vtep_base.specs.declared.words.Word.{Word}
use Rattle.vtep_base.specs.declared.words.Word.TheVariants as word
use Rattle.json_notation.specs.Json.{list}
use Rattle.vtep_schema.specs.Published.{schema_json}
use Rattle.vtep_gateway.specs.declared.Outgoing.{Outgoing}
use Rattle.vtep_gateway.specs.declared.methods.Method.{Method}
use Rattle.vtep_gateway.specs.declared.methods.Method.TheVariants.{Echo, ListDbs, GetSchema, Transact, Monitor, MonitorCancel}
use Rattle.vtep_rows.specs.declared.soundness.Rule.{Rule}
use Rattle.transact_profile.specs.Meaning.{Reply, Outcome, means}
use Rattle.transact_profile.specs.Transaction.{ops_in}
use Rattle.transact_profile.specs.Finish.{finished}
use Rattle.vtep_base.specs.Chains.{or_refuse, ◌>>=◌}
use Rattle.monitor_updates.specs.Requests.{request_of}
use Rattle.monitor_updates.specs.Updates.{opening_json}
use Rattle.vtep_gateway.specs.Monitors.{OpenMonitor, monitors_of, with_monitor, is_free, asks, left_by}
use Rattle.local_tables.specs.Followed.{Committed}
use Rattle.vtep_gateway.specs.Vtep.{Vtep, with_monitors}
use Rattle.vtep_gateway.specs.Commit.{Taken, committed, commit_of}

abbrev pub method_of : Bytes → Option Method
method_of name =
    if same_bytes name (codes "echo") then Some Echo
    else if same_bytes name (codes "list_dbs") then Some ListDbs
    else if same_bytes name (codes "get_schema") then Some GetSchema
    else if same_bytes name (codes "transact") then Some Transact
    else if same_bytes name (codes "monitor") then Some Monitor
    else if same_bytes name (codes "monitor_cancel") then Some MonitorCancel
    else None

-- what a request does: the tunnel end point, what is sent before the reply, and the result or the word
pub record Done : Type 0 where
  pub vtep : Vtep
  pub before : List Outgoing
  pub result : Result Data Word

-- nothing but a result or a word
abbrev pub only : Vtep → Result Data Word → Done
only v result = record { vtep = v; before = []; result = result }

abbrev pub database : Bytes
database = codes "hardware_vtep"

abbrev pub names_database : Option Bytes → Result ⊤ Word
names_database None = Err word.SyntaxError
names_database (Some name) = if same_bytes name database then Ok tt else Err word.UnknownDatabase

-- the first of the parameters is the name of the database
abbrev pub in_database : Data → Result ⊤ Word
in_database params = names_database (option_and_then as_str (at 0 params))

abbrev pub databases : Data
databases = list (string database ∷ [])

abbrev pub or_word : Result ⊤ Word → Data → Result Data Word
or_word (Ok _) d = Ok d
or_word (Err w) d = Err w

-- the schema, for those who name the database
abbrev pub schema_in : Data → Result Data Word
schema_in params = or_word (in_database params) schema_json

-- the results, and what is kept, or the rule that the rows break
abbrev pub ended : Vtep → List Reply → Result Committed Rule → Done
ended v results (Ok c) = let t : Taken = committed v c in record { vtep = t.vtep; before = t.sends; result = Ok (finished results None) }
ended v results (Err rule) = only v (Ok (finished results (Some rule)))

-- a transaction that fails or that breaks a rule leaves all as it was
abbrev pub transacted : Vtep → Outcome → Done
transacted v o = if o.failed then only v (Ok (finished o.results None)) else ended v o.results (commit_of v o.rows v.learned)

-- an operation fails, or the rows after all of them break a rule
abbrev pub fails : Vtep → Outcome → Bool
fails v o = o.failed || is_err (commit_of v o.rows v.learned)

abbrev pub transact_in : Vtep → Data → Result ⊤ Word → Done
transact_in v params (Ok _) = transacted v (means (ops_in params) v.rows)
transact_in v params (Err w) = only v (Err w)

-- the monitor that is asked for, or the first refusal: of the parameters' form, of the database, of the name, and of what is asked of the tables
abbrev pub monitor_for : List OpenMonitor → Data → Result OpenMonitor Word
monitor_for ws params = do
  a ← or_refuse word.SyntaxError (asks params)
  named ← in_database params
  free ← is_free ws (compact_text a.0)
  request ← request_of a.1
  Ok (record { name = compact_text a.0; request = request })

-- the monitor is opened, and the rows that are there are the result
abbrev pub monitor_by : Vtep → ℕ → Result OpenMonitor Word → Done
monitor_by v s (Ok w) = only (with_monitors v (with_monitor v.monitors s w)) (Ok (opening_json w.request v.rows))
monitor_by v s (Err w) = only v (Err w)

abbrev pub cancel_by : Vtep → ℕ → Result (List OpenMonitor) Word → Done
cancel_by v s (Ok ws) = only (with_monitors v (maps.insert v.monitors s ws)) (Ok (object no_members))
cancel_by v s (Err w) = only v (Err w)

abbrev pub monitor_in : Vtep → ℕ → Data → Done
monitor_in v s params = monitor_by v s (monitor_for (monitors_of v.monitors s) params)

abbrev pub cancel_in : Vtep → ℕ → Data → Done
cancel_in v s params = cancel_by v s (left_by (monitors_of v.monitors s) params)

-- what a session's request does: the session, the method, the parameters
abbrev pub called : Vtep → ℕ → Option Method → Data → Done
called v s (Some Echo) params = only v (Ok params)
called v s (Some ListDbs) params = only v (Ok databases)
called v s (Some GetSchema) params = only v (schema_in params)
called v s (Some Transact) params = transact_in v params (in_database params)
called v s (Some Monitor) params = monitor_in v s params
called v s (Some MonitorCancel) params = cancel_in v s params
called v s None params = only v (Err word.UnknownMethod)

-- the result that the code holds
abbrev pub seen : Result Value Word → Result Data Word
seen (Ok v) = Ok (view v)
seen (Err w) = Err w
