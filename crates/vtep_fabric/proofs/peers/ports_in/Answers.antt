use Rattle.std.proofs.Common.{ap, ◌∙◌}
use Rattle.std.specs.List.{filter_map}
use Rattle.std.specs.Option.{option_and_then}
use Rattle.vtep_base.specs.Maps as maps
use Rattle.vtep_schema.specs.declared.Table.TheVariants.{PhysicalPort}
use Rattle.vtep_rows.specs.Row.{put_all}
use Rattle.vtep_rows.specs.Rows.{row_at}
use Rattle.forward_program.proofs.RowsThere.{found_by_id}
use Rattle.fabric_world.specs.Intentions.{bytes_cmp}
use Rattle.fabric_world.specs.Installer.{port_in}
use Rattle.vtep_fabric.proofs.peers.ports_in.Goals as goal

pub ports-init : goal.ports-init
ports-init c =
    ap (λ es. put_all (maps.map_by bytes_cmp es) (filter_map (λ id. option_and_then (λ row. port_in (id, row)) (row_at c.args.rows.now (PhysicalPort, id))) c.into_iter-id-iterator.result)) c.new-ports.ensures
    ∙ ap (λ ids. put_all maps.empty (filter_map (λ id. option_and_then (λ row. port_in (id, row)) (row_at c.args.rows.now (PhysicalPort, id))) ids))
    (c.into_iter-id-iterator.ensures.into_iter_gives ∙ c.ids-id-items.ensures)
    ∙ ap (put_all maps.empty) (found_by_id c.args.rows.now PhysicalPort port_in)
