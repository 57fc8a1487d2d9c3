use Rattle.std.proofs.Common.{◌≡◌, rules, None, sym, ap, subst, ◌∙◌}
use Rattle.vtep_rows.specs.Rows.{inserted, next_id}
use Rattle.vtep_rows.specs.Database.{Versions}
use Rattle.vtep_gateway.specs.declared.ports.Change.TheVariants.{Joins}
use Rattle.vtep_gateway.specs.Ports.{Takes, with_ports, port_refusal}
use Rattle.vtep_gateway.proofs.Settling.{name_short}
use Rattle.vtep_gateway.proofs.PortJoins.{join_takes}
use Rattle.vtep_gateway.proofs.ports.add_port.Goals as goal

pub change_ports-requires : goal.change_ports-requires
change_ports-requires c =
    let r = c.args.database.now.current in
    let free : port_refusal c.args.database.now.current c.args.name.now ≡ None = search rules in
    subst (λ id. Takes Joins id c.insert.new.self.current) (sym c.in-Ok.ensures.id)
    (subst (Takes Joins (next_id r)) (sym (ap (λ v. v.current) c.in-Ok.ensures.ok ∙ ap (inserted r) c.in_ok-row.ensures))
    (join_takes r c.args.name.now c.requires (name_short c.args.name.now c.in_ok-port_named.ensures.form) free))

pub returns-in_ok-change_ports-in-Ok-clause-added : goal.returns-in_ok-change_ports-in-Ok-clause-added
returns-in_ok-change_ports-in-Ok-clause-added c =
    let r = c.args.database.now.current in
    c.in_ok-change_ports-in-Ok.ensures
    ∙ (λ i. let v : Versions = record {
      committed = (ap (λ v. v.committed) c.in-Ok.ensures.ok) i;
      current = with_ports ((ap (λ v. v.current) c.in-Ok.ensures.ok ∙ ap (inserted r) c.in_ok-row.ensures) i) Joins (c.in-Ok.ensures.id i);
    } in v)
