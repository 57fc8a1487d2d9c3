-- What a monitor sees of the rows, and what it is told when they change (RFC 7047, section 4.1.6).
use Rattle.std.specs.Prelude.{◌≡◌, Bool, true, ◌&&◌, if◌then◌else◌, List, [], ◌∷◌, map, filter_map, Option, Some, None, option_map, option_and_then}
use Rattle.std.specs.List.{list_all}
use Rattle.vtep_base.specs.Maps as maps
use Rattle.vtep_base.specs.Maps.{Map}
use Rattle.ovsdb_values.specs.declared.datums.Datum.{Datum}
use Rattle.ovsdb_values.specs.Sets.{same_datum}
use Rattle.ovsdb_values.specs.Notation.{IsOf}
use Rattle.vtep_schema.specs.declared.Table.{Table}
use Rattle.vtep_schema.specs.declared.Column.{Column}
use Rattle.vtep_schema.specs.Tables.{same_table, tables, columns_of, shape_of}
use Rattle.vtep_rows.specs.Row.{Contents, value_at}
use Rattle.vtep_rows.specs.Rows.{Rows, Key, key_cmp, row_at}
use Rattle.vtep_rows.specs.Changes.{keys_of_both}
use Rattle.monitor_updates.specs.declared.requests.MonitorRequest.{MonitorRequest}

-- a row cut to the columns that are monitored
abbrev pub Cut : Type 0
Cut = List (Column × Datum)

abbrev pub cut : List Column → Contents → Cut
cut columns row = map (λ c. (c, value_at row c)) columns

-- what is asked of a table
abbrev pub asked_of : List MonitorRequest → Table → Option MonitorRequest
asked_of [] t = None
asked_of (a ∷ request) t = if same_table a.table t then Some a else asked_of request t

abbrev pub cut_at : List MonitorRequest → Rows → Key → Option Cut
cut_at request r k = option_and_then (λ a. option_map (cut a.columns) (row_at r k)) (asked_of request k.0)

-- what f gives of each table and identifier, where it gives something
abbrev pub listed : {A : Type 0} → (Key → Option A) → List Key → List (Key × A)
listed f ks = filter_map (λ k. option_map (λ x. (k, x)) (f k)) ks

-- the monitored columns of the monitored tables
abbrev pub view : List MonitorRequest → Rows → Map key_cmp Cut
view request r = maps.of_list (listed (cut_at request r) (maps.keys r.rows))

pub data Update : Type 0 where
  Insert : Cut → Update
  Delete : Cut → Update
  Modify : Cut → Cut → Update  -- the old values of the columns that changed, and all new ones

-- the old values of the columns that differ
abbrev pub differing : Cut → Cut → Cut
differing (e ∷ old) (f ∷ new) = if same_datum e.1 f.1 then differing old new else e ∷ differing old new
differing _ _ = []

abbrev pub changed : Cut → Cut → Option Update
changed [] new = None
changed (e ∷ before) new = Some (Modify (e ∷ before) new)

-- how what was there becomes what is there
abbrev pub update : Option Cut → Option Cut → Option Update
update None None = None
update None (Some new) = Some (Insert new)
update (Some old) None = Some (Delete old)
update (Some old) (Some new) = changed (differing old new) new

abbrev pub wants : MonitorRequest → Update → Bool
wants a (Insert new) = a.insert
wants a (Delete old) = a.delete
wants a (Modify before new) = a.modify

abbrev pub wanted : Option MonitorRequest → Update → Option Update
wanted None u = None
wanted (Some a) u = if wants a u then Some u else None

abbrev pub noted_at : List MonitorRequest → Map key_cmp Cut → Map key_cmp Cut → Key → Option Update
noted_at request before after k = option_and_then (wanted (asked_of request k.0)) (update (maps.get before k) (maps.get after k))

-- how the view of the rows before differs from that of the rows after, by table and identifier
abbrev pub noted : List MonitorRequest → Rows → Rows → List (Key × Update)
noted request old new = listed (noted_at request (view request old) (view request new)) (keys_of_both old new)

abbrev pub initially : Option MonitorRequest → Option Cut → Option Update
initially None cut = None
initially (Some a) cut = if a.initial then option_map Insert cut else None

-- what is told when a monitor is opened
abbrev pub opening : List MonitorRequest → Rows → List (Key × Update)
opening request r = listed (λ k. initially (asked_of request k.0) (maps.get (view request r) k)) (maps.keys r.rows)

-- ---- folding

abbrev pub folded_one : Map key_cmp Cut → Key → Update → Map key_cmp Cut
folded_one m k (Insert new) = maps.insert m k new
folded_one m k (Delete old) = maps.remove m k
folded_one m k (Modify before new) = maps.insert m k new

abbrev pub folded : Map key_cmp Cut → List (Key × Update) → Map key_cmp Cut
folded m [] = m
folded m (u ∷ us) = folded_one (folded m us) u.0 u.1

-- all four kinds of rows are wanted
abbrev pub wants_all : List MonitorRequest → Bool
wants_all request = list_all (λ a. a.initial && a.insert && a.delete && a.modify) request

-- ---- the request of everything

abbrev pub whole : Table → MonitorRequest
whole t = record { table = t; columns = columns_of t; initial = true; insert = true; delete = true; modify = true }

-- all columns of all tables, and all four kinds of rows
abbrev pub everything : List MonitorRequest
everything = map whole tables

-- each value has the form of its column, so it is read from what is written of it
abbrev pub IsWritable : Rows → Type 0
IsWritable r = (k : Key) (row : Contents) → row_at r k ≡ Some row → (c : Column) (d : Datum) → maps.get row.values c ≡ Some d → IsOf (shape_of c) d
