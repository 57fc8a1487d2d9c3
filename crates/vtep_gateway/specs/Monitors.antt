-- The monitors of sessions (RFC 7047, sections 4.1.5 to 4.1.7).
use Rattle.std.specs.Prelude.{◌≡◌, ℕ, false, ⊤, Bool, not, nat_le, if◌then◌else◌, List, [], ◌∷◌, ◌++◌, length, filter, Option, Some, None, is_some, option_and_then, unwrap_or, codes, Result, Ok, Err, refl}
use Rattle.std.specs.List.{list_any, flat_map}
use Rattle.std.specs.Ordering.{nat_cmp}
use Rattle.std.specs.Coded.{Coded, code_by, coded×, coded_ℕ, coded_list}
use Rattle.serde_json.specs.Data.{Data, Items, no_items, item}
use Rattle.serde_json.specs.Find.{as_array, as_object}
use Rattle.serde_json.specs.View.{view}
use Rattle.serde_json.specs.Written.{has_float, compact_text}
use Rattle.serde_json.specs.declared.value.Value.{Value}
use Rattle.vtep_base.specs.Reading.{Bytes, same_bytes}
use Rattle.vtep_base.specs.Maps as maps
use Rattle.vtep_base.specs.Maps.{Map}
use Rattle.vtep_base.specs.declared.words.Word.{Word}
use Rattle.vtep_base.specs.declared.words.Word.TheVariants as word
use Rattle.vtep_rows.specs.Rows.{Rows, Key}
use Rattle.monitor_updates.specs.contracts.requests.MonitorRequest as code
use Rattle.monitor_updates.specs.declared.requests.MonitorRequest.{MonitorRequest}
use Rattle.monitor_updates.specs.Noted.{Update, noted}
use Rattle.vtep_base.specs.Chains.{or_refuse, ◌>>=◌}
use Rattle.monitor_updates.specs.Updates.{updates_json}
use Rattle.vtep_gateway.specs.declared.Outgoing.{Outgoing}

-- a monitor: its name as it is written, and what is asked of each table. Equal texts are equal values (`names_are_values`)
pub record OpenMonitor : Type 0 where
  pub name : Bytes
  pub request : List MonitorRequest

abbrev pub open_monitor_code : Coded OpenMonitor
open_monitor_code =
    code_by (Bytes × List MonitorRequest) (coded× (coded_list coded_ℕ) (coded_list (code.the_row).coded))
    (λ w. (w.name, w.request)) (λ p. record { name = p.0; request = p.1 }) (λ _. refl)

-- the text of a name that has no number with a fraction
abbrev pub IsNamed : Bytes → Value → Type 0
IsNamed name id = (has_float (view id) ≡ false) × (name ≡ compact_text (view id))

-- those of each session, in the order in which they were opened
abbrev pub Monitors : Type 0
Monitors = Map nat_cmp (List OpenMonitor)

abbrev pub monitors_code : Coded Monitors
monitors_code = maps.code coded_ℕ (coded_list open_monitor_code)

abbrev pub monitors_of : Monitors → ℕ → List OpenMonitor
monitors_of m s = unwrap_or (maps.get m s) []

abbrev pub with_monitor : Monitors → ℕ → OpenMonitor → Monitors
with_monitor m s w = maps.insert m s (monitors_of m s ++ w ∷ [])

-- ---- updates

-- an update as it is sent, to the monitor of this name
abbrev pub update_text : Bytes → Data → Bytes
update_text name updates = codes "{\"id\":null,\"method\":\"update\",\"params\":[" ++ (name ++ (codes "," ++ (compact_text updates ++ codes "]}")))

-- nothing is sent of nothing
abbrev pub told_of : ℕ → Bytes → List (Key × Update) → List Outgoing
told_of s name [] = []
told_of s name (u ∷ us) = record { session = s; bytes = update_text name (updates_json (u ∷ us)) } ∷ []

-- what a monitor of a session is told of a change of the rows
abbrev pub told : Rows → Rows → ℕ → OpenMonitor → List Outgoing
told old new s w = told_of s w.name (noted w.request old new)

-- by session, then in the order of opening
abbrev pub told_all : Rows → Rows → Monitors → List Outgoing
told_all old new m = flat_map (λ e. flat_map (told old new e.0) e.1) m.list

-- ---- requests

abbrev pub most_monitors : ℕ
most_monitors = 16

abbrev pub is_open : List OpenMonitor → Bytes → Bool
is_open ws name = list_any (λ w. same_bytes w.name name) ws

-- one more may be opened, of this name
abbrev pub is_free : List OpenMonitor → Bytes → Result ⊤ Word
is_free ws name = if is_open ws name then Err word.DuplicateMonitor else if nat_le most_monitors (length ws) then Err word.ResourcesExhausted else Ok tt

-- the name and the requests: of three parameters, of which the last is an object
abbrev pub asks_in : Items → Option (Data × Data)
asks_in (item database (item id (item requests no_items))) = if is_some (as_object requests) then Some (id, requests) else None
asks_in _ = None

abbrev pub asks : Data → Option (Data × Data)
asks params = option_and_then asks_in (as_array params)

-- the one parameter
abbrev pub one_in : Items → Option Data
one_in (item id no_items) = Some id
one_in _ = None

abbrev pub one_of : Data → Option Data
one_of params = option_and_then one_in (as_array params)

-- the monitors but that of this name
abbrev pub others : List OpenMonitor → Bytes → List OpenMonitor
others ws name = filter (λ w. not (same_bytes w.name name)) ws

abbrev pub others_of : List OpenMonitor → Data → Result (List OpenMonitor) Word
others_of ws id = if is_open ws (compact_text id) then Ok (others ws (compact_text id)) else Err word.UnknownMonitor

-- the monitors that a cancellation leaves, or its refusal
abbrev pub left_by : List OpenMonitor → Data → Result (List OpenMonitor) Word
left_by ws params = or_refuse word.SyntaxError (one_of params) >>= others_of ws
