-- What a gateway that is not stopped always has, and what sessions leave as it is.
use Rattle.std.specs.Prelude.{◌≡◌, ◌<◌, ◌^◌, ℕ, true, false, Bool, ◌&&◌, nat_lt, List, [], ◌∷◌, map, Option, Some, None}
use Rattle.std.specs.List.{list_all}
use Rattle.vtep_base.specs.Reading.{Bytes}
use Rattle.vtep_base.specs.Texts.{is_name}
use Rattle.vtep_base.specs.Maps as maps
use Rattle.ovsdb_values.specs.declared.atoms.Atom.TheVariants.{Id}
use Rattle.ovsdb_values.specs.declared.datums.Datum.TheVariants as datum
use Rattle.vtep_schema.specs.declared.Table.{Table}
use Rattle.vtep_schema.specs.declared.Table.TheVariants.{PhysicalPort, PhysicalSwitch}
use Rattle.vtep_schema.specs.declared.Column.{Column}
use Rattle.vtep_schema.specs.declared.Column.TheVariants.{SwitchPorts}
use Rattle.vtep_schema.specs.Tables.{table_rule, belongs, written_by_sessions}
use Rattle.vtep_rows.specs.Row.{Contents, with_value}
use Rattle.vtep_rows.specs.Rows.{Rows, IsRows, row_at, ids_of, switch_row, collected}
use Rattle.vtep_rows.specs.Sound.{Sound}
use Rattle.vtep_gateway.specs.declared.Event.{Event}
use Rattle.vtep_gateway.specs.declared.Event.TheVariants as event
use Rattle.vtep_gateway.specs.Ports.{switch_id}

-- the row of a switch of this name and tunnel address, with these ports
abbrev pub switch_with : Bytes → ℕ → List ℕ → Contents
switch_with name ip ports = with_value (switch_row name ip) SwitchPorts (datum.Set (map Id ports))

-- the rows are sound and collected, and there is one row of Physical_Switch, with one tunnel address, of which the rows of
-- Physical_Port are the ports
pub record IsSettled (r : Rows) : Type 0 where
  pub rows : IsRows r
  pub sound : Sound r
  pub referenced : collected r ≡ r
  pub only : ids_of PhysicalSwitch r ≡ switch_id r ∷ []
  pub name : Bytes
  pub ip : ℕ
  pub fits : ip < 2 ^ 32
  pub switch : row_at r (PhysicalSwitch, switch_id r) ≡ Some (switch_with name ip (ids_of PhysicalPort r))

-- names of ports are names, and frames are bytes
abbrev pub IsEvent : Event → Type 0
IsEvent (event.Port name) = is_name name ≡ true
IsEvent (event.Frame port bytes) = (is_name port ≡ true) × (list_all (λ b. nat_lt b 256) bytes ≡ true)
IsEvent _ = Unit {0}

-- ---- what sessions leave

-- sessions write the column, in rows of the table
abbrev pub is_written : Table → Column → Bool
is_written t c = belongs c t && written_by_sessions c

-- there is a row in both, with the same values in all columns but those that sessions write, or none in either
abbrev pub IsLeft : Option Contents → Option Contents → Type 0
IsLeft None None = Unit {0}
IsLeft (Some a) (Some b) = (b.table ≡ a.table) × ((c : Column) → is_written a.table c ≡ false → maps.get b.values c ≡ maps.get a.values c)
IsLeft _ _ = ⊥

-- of tables that are not open to sessions, the same rows are there, and differ only in columns that sessions write
pub record LeavesRest (r s : Rows) : Type 0 where
  pub rows : IsRows s
  pub made : s.made ≡ r.made
  pub rest : (t : Table) (i : ℕ) → (table_rule t).open_to_sessions ≡ false → IsLeft (row_at r (t, i)) (row_at s (t, i))
