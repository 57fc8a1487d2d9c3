use Rattle.std.proofs.Common.{◌≡◌, rules, sym, ap, ◌∙◌}
use Rattle.std.specs.Option.{option_map}
use Rattle.vtep_schema.specs.declared.Table.TheVariants.{PhysicalSwitch}
use Rattle.vtep_rows.specs.Rows.{Rows, row_at}
use Rattle.vtep_rows.specs.Database.{Versions}
use Rattle.vtep_rows.proofs.TallyLaws.{ok_so}
use Rattle.vtep_gateway.specs.Ports.{switch_id}
use Rattle.vtep_gateway.proofs.PortRows.{ports_changed}
use Rattle.vtep_gateway.proofs.ports.change_ports.Goals as goal

pub returns : goal.returns
returns c =
    let same : c.unwrap-switch.result ≡ switch_id c.args.database.now.current = search rules in
    let is = ap (option_map (λ row. row.now)) (sym c.unwrap-row.ensures) ∙ c.get.ensures.value ∙ ap (λ r. row_at r (PhysicalSwitch, c.unwrap-switch.result)) c.rows-rows.ensures in
    ok_so c.replace.result
    (λ e. e ∙ ap (λ (r : Rows). let v : Versions = record { committed = c.args.database.now.committed; current = r } in v)
    (ports_changed c.args.database.now.current c.args.change c.args.id c.unwrap-switch.result c.unwrap-row.result.now c.in_ok-row.row same is c.in_ok-row.ensures))
    c.replace.ensures.ok
