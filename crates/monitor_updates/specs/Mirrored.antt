-- What a mirror makes of table updates (RFC 7047, section 4.1.6).
use Rattle.std.specs.Prelude.{◌≡◌, ℕ, Bool, true, false, not, ◌&&◌, ◌||◌, if◌then◌else◌, List, [], ◌∷◌, ◌++◌, map, Option, Some, None, is_some, is_none, option_map, option_and_then, codes, Result, Ok, Err}
use Rattle.std.specs.List.{list_all, list_any}
use Rattle.std.specs.Char.{to_ascii_lowercase}
use Rattle.std.specs.Ordering.{nat_cmp}
use Rattle.std.specs.BTreeMap.{is_at}
use Rattle.std.specs.BTreeSet.{insert_key}
use Rattle.serde_json.specs.Data.{Data, Members, no_members, member}
use Rattle.serde_json.specs.Find.{get, as_object}
use Rattle.vtep_base.specs.Answers.{OrMemory}
use Rattle.vtep_base.specs.Reading.{Bytes, same_bytes}
use Rattle.vtep_base.specs.Addresses.{mac_of}
use Rattle.vtep_base.specs.Maps as maps
use Rattle.vtep_base.specs.Maps.{Map}
use Rattle.ovsdb_values.specs.declared.NotationFault.{NotationFault}
use Rattle.ovsdb_values.specs.declared.atoms.Atom.TheVariants.{Text}
use Rattle.ovsdb_values.specs.declared.datums.Datum.{Datum}
use Rattle.ovsdb_values.specs.declared.datums.Datum.TheVariants.{Set}
use Rattle.ovsdb_values.specs.Sets.{same_datum}
use Rattle.ovsdb_values.specs.Notation.{datum_of, id_of}
use Rattle.vtep_schema.specs.declared.Table.{Table}
use Rattle.vtep_schema.specs.declared.Column.{Column}
use Rattle.vtep_schema.specs.declared.rules.Domain.{Domain}
use Rattle.vtep_schema.specs.declared.rules.Domain.TheVariants as domain
use Rattle.vtep_schema.specs.Tables.{column_rule, columns_of, column_named, table_named, shape_of}
use Rattle.vtep_rows.specs.Row.{Contents, allowed, row_of}
use Rattle.vtep_rows.specs.Rows.{Key, key_cmp}
use Rattle.monitor_updates.specs.Noted.{cut, differing}
use Rattle.monitor_updates.specs.OneRow.{is_any}
use Rattle.monitor_updates.specs.declared.row_updates.RowUpdate.{RowUpdate}
use Rattle.monitor_updates.specs.declared.row_updates.RowUpdate.TheVariants.{Insert, Delete, Modify}
use Rattle.monitor_updates.specs.declared.mirror.MirrorFault.{MirrorFault}
use Rattle.monitor_updates.specs.declared.mirror.MirrorFault.TheVariants as fault

abbrev pub Mirrored : Type 0
Mirrored = Map key_cmp Contents

-- ---- values as they are told

abbrev pub holds_mac : Domain → Bool
holds_mac domain.Mac = true
holds_mac domain.SingleMac = true
holds_mac domain.GroupMac = true
holds_mac _ = false

abbrev pub lower_mac : Bytes → Bytes
lower_mac t = if is_some (mac_of t) then map to_ascii_lowercase t else t

-- the text of a MAC address is taken in lower case
abbrev pub lowered : Bool → Datum → Datum
lowered mac (Set (Text t ∷ [])) = if mac then Set (Text (lower_mac t) ∷ []) else Set (Text t ∷ [])
lowered mac d = d

abbrev pub value_if : Column → Datum → Option (Column × Datum)
value_if c d = if allowed c d then Some (c, d) else None

abbrev pub value_in : Column → Result Datum NotationFault → Option (Column × Datum)
value_in c (Err e) = None
value_in c (Ok d) = value_if c (lowered (holds_mac (column_rule c).key) d)

abbrev pub told_value : Table → Bytes → Data → Option (Column × Datum)
told_value t name d = option_and_then (λ c. value_in c (datum_of (shape_of c) d)) (column_named t name)

-- each behind those that are read
abbrev pub values_from : Table → List (Column × Datum) → Members → Option (List (Column × Datum))
values_from t done no_members = Some done
values_from t done (member name d ms) = option_and_then (λ e. values_from t (done ++ e ∷ []) ms) (told_value t name d)

abbrev pub told_values : Table → Data → Option (List (Column × Datum))
told_values t d = option_and_then (values_from t []) (as_object d)

-- every column of the table
abbrev pub told_whole : Table → Data → Option Contents
told_whole t d = option_and_then (row_of t) (told_values t d)

abbrev pub at_least_one : List (Column × Datum) → Option (List (Column × Datum))
at_least_one [] = None
at_least_one (e ∷ es) = Some (e ∷ es)

abbrev pub told_some : Table → Data → Option (List (Column × Datum))
told_some t d = option_and_then at_least_one (told_values t d)

-- ---- row updates as they are told

abbrev pub told_by : Table → Option Data → Option Data → Option RowUpdate
told_by t None None = None
told_by t None (Some new) = option_map Insert (told_whole t new)
told_by t (Some old) None = option_map Delete (told_whole t old)
told_by t (Some old) (Some new) = option_and_then (λ before. option_map (Modify before) (told_whole t new)) (told_some t old)

-- no member but `old` and `new`
abbrev pub only_told : Members → Bool
only_told no_members = true
only_told (member name d ms) = (same_bytes name (codes "old") || same_bytes name (codes "new")) && only_told ms

abbrev pub told_in : Table → Data → Members → Option RowUpdate
told_in t d ms = if only_told ms then told_by t (get (codes "old") d) (get (codes "new") d) else None

abbrev pub told_update : Table → Data → Option RowUpdate
told_update t d = option_and_then (told_in t d) (as_object d)

abbrev pub told_entry : Table → Bytes → Data → Option (Key × RowUpdate)
told_entry t name d = option_and_then (λ id. option_map (λ u. ((t, id), u)) (told_update t d)) (id_of name)

abbrev pub rows_from : Table → List (Key × RowUpdate) → Members → Option (List (Key × RowUpdate))
rows_from t done no_members = Some done
rows_from t done (member name d ms) = option_and_then (λ u. rows_from t (done ++ u ∷ []) ms) (told_entry t name d)

-- this identifier is among those that are seen
abbrev pub is_seen : List ℕ → Option ℕ → Bool
is_seen seen None = false
is_seen seen (Some id) = list_any (is_at (nat_cmp id)) seen

abbrev pub with_id : List ℕ → Option ℕ → List ℕ
with_id seen None = seen
with_id seen (Some id) = insert_key nat_cmp seen id

-- none of the names spells an identifier that is seen before it; the letters of one have either case
abbrev pub spells_each_once : List ℕ → Members → Bool
spells_each_once seen no_members = true
spells_each_once seen (member name d ms) = not (is_seen seen (id_of name)) && spells_each_once (with_id seen (id_of name)) ms

abbrev pub each_once : Members → Option Members
each_once ms = if spells_each_once [] ms then Some ms else None

abbrev pub told_table : List (Key × RowUpdate) → Bytes → Data → Option (List (Key × RowUpdate))
told_table done name d = option_and_then (λ t. option_and_then (rows_from t done) (option_and_then each_once (as_object d))) (table_named name)

abbrev pub tables_from : List (Key × RowUpdate) → Members → Option (List (Key × RowUpdate))
tables_from done no_members = Some done
tables_from done (member name d ms) = option_and_then (λ us. tables_from us ms) (told_table done name d)

-- table updates of the schema, in the order of their members
abbrev pub told_of : Data → Option (List (Key × RowUpdate))
told_of d = option_and_then (tables_from []) (as_object d)

-- ---- what they do

abbrev pub is_value : Option Datum → Datum → Bool
is_value None d = false
is_value (Some v) d = same_datum v d

abbrev pub has_values : List (Column × Datum) → Contents → Bool
has_values es row = list_all (λ e. is_value (maps.get row.values e.0) e.1) es

abbrev pub has_all : Table → Contents → Contents → Bool
has_all t old row = not (is_any (differing (cut (columns_of t) old) (cut (columns_of t) row)))

-- a new row is not there; one that went or changed has the old values, and is in no answer to a request
abbrev pub agrees : Bool → Table → RowUpdate → Option Contents → Bool
agrees first t (Insert new) there = is_none there
agrees first t (Delete old) None = false
agrees first t (Delete old) (Some row) = not first && has_all t old row
agrees first t (Modify before new) None = false
agrees first t (Modify before new) (Some row) = not first && has_values before row

-- the first row that contradicts what is there
abbrev pub contradiction : Bool → Mirrored → List (Key × RowUpdate) → Option Key
contradiction first m [] = None
contradiction first m (u ∷ us) = if agrees first u.0.0 u.1 (maps.get m u.0) then contradiction first m us else Some u.0

abbrev pub applied_one : Mirrored → Key → RowUpdate → Mirrored
applied_one m k (Insert new) = maps.insert m k new
applied_one m k (Delete old) = maps.remove m k
applied_one m k (Modify before new) = maps.insert m k new

abbrev pub applied : Mirrored → List (Key × RowUpdate) → Mirrored
applied m [] = m
applied m (u ∷ us) = applied (applied_one m u.0 u.1) us

abbrev pub unless : Option Key → Mirrored → Result Mirrored MirrorFault
unless None m = Ok m
unless (Some k) m = Err (fault.Contradicts k.0 k.1)

abbrev pub taken_by : Bool → Mirrored → Option (List (Key × RowUpdate)) → Result Mirrored MirrorFault
taken_by first m None = Err fault.Shape
taken_by first m (Some us) = unless (contradiction first m us) (applied m us)

-- what an update makes of the mirror, or an answer to a request where it is the first
abbrev pub taken : Bool → Mirrored → Data → Result Mirrored MirrorFault
taken first m d = taken_by first m (told_of d)

abbrev pub refusal_of : MirrorFault → Option MirrorFault
refusal_of fault.OutOfMemory = None
refusal_of fault.Shape = Some fault.Shape
refusal_of (fault.Contradicts t id) = Some (fault.Contradicts t id)

-- a call's refusal is want of memory, or the one that is meant
abbrev pub IsMeant : MirrorFault → Result Mirrored MirrorFault → Type 0
IsMeant f meant = OrMemory (refusal_of f) (λ refusal. meant ≡ Err refusal)

-- a refusal leaves the mirror as it was; want of memory may not
abbrev pub StaysUnlessMemory : MirrorFault → Mirrored → Mirrored → Type 0
StaysUnlessMemory f before now = OrMemory (refusal_of f) (λ _. now ≡ before)
