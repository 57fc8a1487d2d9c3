use Rattle.std.proofs.Common.{sym, ap, subst, ◌∙◌}
use Rattle.vtep_rows.specs.Database.{Versions}
use Rattle.vtep_gateway.specs.declared.ports.Change.TheVariants.{Leaves}
use Rattle.vtep_gateway.specs.Ports.{Takes, with_ports, port_named}
use Rattle.vtep_gateway.proofs.PortLeaves.{leave_takes}
use Rattle.vtep_gateway.proofs.PortRows.{found_port}
use Rattle.vtep_gateway.proofs.ports.remove_port.Goals as goal

pub change_ports-requires : goal.change_ports-requires
change_ports-requires c =
    subst (Takes Leaves c.in-Some.id) (sym (ap (λ v. v.current) c.in_ok-remove.ensures.ok)) (leave_takes c.args.database.now.current c.in-Some.id c.requires)

pub returns-clause-removed : goal.returns-clause-removed
returns-clause-removed c =
    found_port _ _ c.in-Some.id (ap (λ r. port_named r c.args.name.now) (sym c.rows.ensures) ∙ sym c.in_ok-id.ensures.id ∙ c.in-Some.is)
    (c.in_ok-change_ports.ensures ∙ ap (λ (v : Versions). let w : Versions = record { committed = v.committed; current = with_ports v.current Leaves c.in-Some.id } in w) c.in_ok-remove.ensures.ok)
