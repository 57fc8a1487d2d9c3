use Rattle.std.proofs.Common.{ap, ◌∙◌}
use Rattle.std.specs.List.{filter_map}
use Rattle.std.specs.Option.{option_and_then}
use Rattle.vtep_schema.specs.declared.Table.TheVariants.{PhysicalSwitch}
use Rattle.vtep_schema.specs.declared.Column.TheVariants.{SwitchTunnelIps}
use Rattle.vtep_rows.specs.Row.{first}
use Rattle.vtep_rows.specs.Rows.{row_at}
use Rattle.forward_program.specs.Readings.{ip_at}
use Rattle.forward_program.proofs.RowsThere.{found_by_id}
use Rattle.forward_program.proofs.readings.own_address.Goals as goal

pub switches-init : goal.switches-init
switches-init c =
    ap (λ ids. first (filter_map (λ id. option_and_then (λ row. ip_at row SwitchTunnelIps) (row_at c.args.rows.now (PhysicalSwitch, id))) ids))
    (c.into_iter-id-iterator.ensures.into_iter_gives ∙ c.ids-id-items.ensures)
    ∙ ap first (found_by_id c.args.rows.now PhysicalSwitch (λ e. ip_at e.1 SwitchTunnelIps))
