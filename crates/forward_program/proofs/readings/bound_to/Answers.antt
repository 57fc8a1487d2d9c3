use Rattle.std.proofs.Common.{sym, ◌∙◌, ap}
use Rattle.vtep_schema.specs.declared.Column.TheVariants.{PortVlanBindings}
use Rattle.forward_program.specs.Readings.{id_at_key}
use Rattle.forward_program.proofs.PortAt.{bound_found}
use Rattle.forward_program.proofs.readings.bound_to.Goals as goal

pub returns : goal.returns
returns c =
    bound_found c.args.row.now c.in_ok-port_name.field-0 c.args.port c.args.vlan c.id_at_key.result c.in_ok-port_name.ensures (sym c.if-ne.ensures)
    (c.id_at_key.ensures ∙ ap (λ n. id_at_key c.args.row.now PortVlanBindings n) c.number.ensures.value)
