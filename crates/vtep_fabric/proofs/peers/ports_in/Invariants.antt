use Rattle.std.proofs.Common.{◌≡◌}
use Rattle.std.specs.List.{filter_map}
use Rattle.std.specs.Option.{option_and_then}
use Rattle.vtep_base.specs.Maps as maps
use Rattle.vtep_schema.specs.declared.Table.TheVariants.{PhysicalPort}
use Rattle.vtep_rows.specs.Row.{put_all}
use Rattle.vtep_rows.specs.Rows.{rows_of, row_at}
use Rattle.fabric_world.specs.Intentions.{bytes_cmp}
use Rattle.fabric_world.specs.Installer.{port_in}
use Rattle.vtep_fabric.proofs.peers.ports_in.Given as goal

abbrev pub invariant-ports : goal.invariant-ports
invariant-ports l =
    put_all (maps.map_by bytes_cmp l.ports) (filter_map (λ id. option_and_then (λ row. port_in (id, row)) (row_at l.rows (PhysicalPort, id))) l.id-iterator)
    ≡ put_all maps.empty (filter_map port_in (rows_of PhysicalPort l.rows))
