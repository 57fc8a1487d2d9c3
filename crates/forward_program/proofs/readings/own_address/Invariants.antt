use Rattle.std.proofs.Common.{◌≡◌}
use Rattle.std.specs.List.{filter_map}
use Rattle.std.specs.Option.{option_and_then}
use Rattle.vtep_schema.specs.declared.Table.TheVariants.{PhysicalSwitch}
use Rattle.vtep_schema.specs.declared.Column.TheVariants.{SwitchTunnelIps}
use Rattle.vtep_rows.specs.Row.{first}
use Rattle.vtep_rows.specs.Rows.{row_at}
use Rattle.forward_program.specs.Readings.{ip_at, own_address}
use Rattle.forward_program.proofs.readings.own_address.Given as goal

abbrev pub invariant-switches : goal.invariant-switches
invariant-switches l = first (filter_map (λ id. option_and_then (λ row. ip_at row SwitchTunnelIps) (row_at l.rows (PhysicalSwitch, id))) l.id-iterator) ≡ own_address l.rows
