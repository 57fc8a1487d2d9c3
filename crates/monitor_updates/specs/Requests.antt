-- The requests of a monitor, as they are written (RFC 7047, section 4.1.5).
use Rattle.std.specs.Prelude.{◌≡◌, Bool, true, false, ◌&&◌, ◌||◌, if◌then◌else◌, List, [], ◌∷◌, ◌++◌, filter, Option, Some, None, is_some, codes, Result, Ok, Err}
use Rattle.serde_json.specs.Data.{Data, Items, no_items, item, Members, no_members, member}
use Rattle.serde_json.specs.Find.{as_array, as_object, as_str}
use Rattle.vtep_base.specs.Answers.{OrMemory}
use Rattle.vtep_base.specs.Chains.{◌>>=◌, or_refuse}
use Rattle.vtep_base.specs.Reading.{Bytes, same_bytes}
use Rattle.vtep_base.specs.declared.words.Word.{Word}
use Rattle.vtep_base.specs.declared.words.Word.TheVariants as word
use Rattle.vtep_schema.specs.declared.Table.{Table}
use Rattle.vtep_schema.specs.declared.Column.{Column}
use Rattle.vtep_schema.specs.Tables.{columns_of, column_name, column_named, table_named}
use Rattle.monitor_updates.specs.declared.requests.MonitorRequest.{MonitorRequest}
use Rattle.monitor_updates.specs.declared.requests.MonitorFault.{MonitorFault}
use Rattle.monitor_updates.specs.declared.requests.MonitorFault.TheVariants as fault
use Rattle.monitor_updates.specs.Forms.{Form, form_of, all_forms}

abbrev pub refusal_of : MonitorFault → Option Word
refusal_of fault.OutOfMemory = None
refusal_of (fault.Word w) = Some w

-- a refusal is want of memory, or the word that is meant
abbrev pub IsRefusal : {A : Type 0} → MonitorFault → Result A Word → Type 0
IsRefusal f meant = OrMemory (refusal_of f) (λ w. meant ≡ Err w)

-- an array holds one object; each of several is read before they are refused
abbrev pub form_among : Items → Result Form Word
form_among no_items = Err word.SyntaxError
form_among (item d no_items) = or_refuse word.SyntaxError (form_of d)
form_among ds = if all_forms ds then Err word.NotSupported else Err word.SyntaxError

abbrev pub form_by : Option Items → Data → Result Form Word
form_by None d = or_refuse word.SyntaxError (form_of d)
form_by (Some ds) d = form_among ds

abbrev pub the_form : Data → Result Form Word
the_form d = form_by (as_array d) d

abbrev pub is_name : Bytes → Option Bytes → Bool
is_name name None = false
is_name name (Some text) = same_bytes text name

abbrev pub is_column : Table → Option Bytes → Bool
is_column t None = false
is_column t (Some text) = same_bytes text (codes "_uuid") || is_some (column_named t text)

abbrev pub all_columns : Table → Items → Bool
all_columns t no_items = true
all_columns t (item d ds) = is_column t (as_str d) && all_columns t ds

abbrev pub is_among : Items → Column → Bool
is_among no_items c = false
is_among (item d ds) c = is_name (column_name c) (as_str d) || is_among ds c

-- the named columns, in the order of the table's; `_uuid` is accepted and adds nothing
abbrev pub columns_asked : Table → Option Items → Result (List Column) Word
columns_asked t None = Ok (columns_of t)
columns_asked t (Some names) = if all_columns t names then Ok (filter (is_among names) (columns_of t)) else Err word.UnknownColumn

abbrev pub asked : Bytes → Data → Result MonitorRequest Word
asked name d = do
  t ← or_refuse word.UnknownTable (table_named name)
  f ← the_form d
  cs ← columns_asked t f.names
  Ok (record { table = t; columns = cs; initial = f.initial; insert = f.insert; delete = f.delete; modify = f.modify })

-- each behind those that are read
abbrev pub asked_from : List MonitorRequest → Members → Result (List MonitorRequest) Word
asked_from done no_members = Ok done
asked_from done (member name d ms) = asked name d >>= λ a. asked_from (done ++ a ∷ []) ms

-- what is asked of each table, in the order of the tables' names; the first refusal
abbrev pub request_of : Data → Result (List MonitorRequest) Word
request_of d = or_refuse word.SyntaxError (as_object d) >>= asked_from []
