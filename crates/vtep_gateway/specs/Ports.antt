-- The ports of a gateway: rows of Physical_Port, which the row of Physical_Switch names.
use Rattle.std.specs.Prelude.{◌≡◌, ℕ, Bool, true, false, ◌||◌, nat_le, ◌==◌, if◌then◌else◌, [], ◌∷◌, map, filter, length, Option, Some, None, is_some, unwrap_or}
use Rattle.vtep_base.specs.Reading.{Bytes, same_bytes}
use Rattle.ovsdb_values.specs.declared.atoms.Atom.TheVariants.{Text, Id}
use Rattle.ovsdb_values.specs.declared.datums.Datum.{Datum}
use Rattle.ovsdb_values.specs.declared.datums.Datum.TheVariants as datum
use Rattle.ovsdb_values.specs.Sets.{one, with_all, without_all}
use Rattle.vtep_schema.specs.declared.Table.TheVariants.{PhysicalPort, PhysicalSwitch}
use Rattle.vtep_schema.specs.declared.Column.TheVariants.{PortName, SwitchPorts}
use Rattle.vtep_schema.specs.Tables.{table_rule}
use Rattle.vtep_rows.specs.Row.{Contents, allowed, value_at, with_value, default_row, first}
use Rattle.vtep_rows.specs.Rows.{Rows, row_id, row_at, rows_of, ids_of, next_id, inserted, replaced, removed, last_number}
use Rattle.vtep_rows.specs.Keyed.{holds, first_key}
use Rattle.vtep_gateway.specs.declared.ports.Change.{Change}
use Rattle.vtep_gateway.specs.declared.ports.Change.TheVariants.{Joins, Leaves}
use Rattle.vtep_gateway.specs.declared.EventRefused.{EventRefused}
use Rattle.vtep_gateway.specs.declared.EventRefused.TheVariants.{Repeated, Ports}

-- the one text of a set
abbrev pub is_text : Datum → Bytes → Bool
is_text (datum.Set (Text t ∷ [])) name = same_bytes t name
is_text _ name = false

-- the row has this name
abbrev pub is_named : Bytes → Contents → Bool
is_named name row = holds (first_key PhysicalPort) (Text name ∷ []) row

-- the identifier of the port of this name
abbrev pub port_named : Rows → Bytes → Option ℕ
port_named r name = first (map (λ row. row.0) (filter (λ row. is_named name row.1) (rows_of PhysicalPort r)))

-- as many ports are there as there may be
abbrev pub is_full : Rows → Bool
is_full r = nat_le (table_rule PhysicalPort).most (length (ids_of PhysicalPort r))

-- why there is to be no port of this name
abbrev pub port_refusal : Rows → Bytes → Option EventRefused
port_refusal r name =
    if is_some (port_named r name) then Some Repeated
    else if is_full r || (r.counter == last_number) then Some Ports
    else None

-- the identifier of the one row of Physical_Switch: it has the number 2
abbrev pub switch_id : Rows → ℕ
switch_id r = row_id r.made 2

abbrev pub switch_of : Rows → Contents
switch_of r = unwrap_or (row_at r (PhysicalSwitch, switch_id r)) (default_row PhysicalSwitch)

abbrev pub changed_ports : Change → ℕ → Datum → Datum
changed_ports Joins id ports = with_all ports (one (Id id))
changed_ports Leaves id ports = without_all ports (one (Id id))

abbrev pub changed_switch : Change → ℕ → Contents → Contents
changed_switch change id row = with_value row SwitchPorts (changed_ports change id (value_at row SwitchPorts))

-- the one row of Physical_Switch is there, and its column of ports takes the change
pub record Takes (change : Change) (id : ℕ) (r : Rows) : Type 0 where
  pub only : ids_of PhysicalSwitch r ≡ switch_id r ∷ []
  pub there : is_some (row_at r (PhysicalSwitch, switch_id r)) ≡ true
  pub fits : allowed SwitchPorts (changed_ports change id (value_at (switch_of r) SwitchPorts)) ≡ true

-- the rows, in which a port joins the switch or leaves it
abbrev pub with_ports : Rows → Change → ℕ → Rows
with_ports r change id = replaced r (PhysicalSwitch, switch_id r) (changed_switch change id (switch_of r))

abbrev pub port_row : Bytes → Contents
port_row name = with_value (default_row PhysicalPort) PortName (one (Text name))

-- one more port
abbrev pub with_port : Rows → Bytes → Rows
with_port r name = with_ports (inserted r (port_row name)) Joins (next_id r)

-- one port less
abbrev pub without_port : Rows → ℕ → Rows
without_port r id = with_ports (removed r (PhysicalPort, id)) Leaves id
