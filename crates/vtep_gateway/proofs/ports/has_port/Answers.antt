use Rattle.std.proofs.Common.{ap, ◌∙◌}
use Rattle.vtep_gateway.proofs.PortNames.{among, all_ports}
use Rattle.vtep_gateway.proofs.ports.has_port.Goals as goal

pub ports-init : goal.ports-init
ports-init c =
    ap (among c.args.rows.now c.args.name.now) (c.into_iter-id-iterator.ensures.into_iter_gives ∙ c.ids-id-items.ensures) ∙ all_ports c.args.rows.now c.args.name.now
