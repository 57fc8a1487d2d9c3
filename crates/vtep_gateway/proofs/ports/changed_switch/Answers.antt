use Rattle.std.proofs.Common.{ap, ◌∙◌}
use Rattle.vtep_schema.specs.declared.Column.TheVariants.{SwitchPorts}
use Rattle.vtep_gateway.specs.Ports.{changed_ports}
use Rattle.vtep_gateway.proofs.PortRows.{made_row}
use Rattle.vtep_gateway.proofs.ports.changed_switch.Goals as goal

pub returns : goal.returns
returns c =
    made_row c.made.result c.with.result c.args.switch.now SwitchPorts c.in_ok-ports.ports _ c.made.ensures c.with.ensures.ok
    (c.in_ok-ports.ensures ∙ ap (changed_ports c.args.change c.args.id) c.value.ensures.value)
