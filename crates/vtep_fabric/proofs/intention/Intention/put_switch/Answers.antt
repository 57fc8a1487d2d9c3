use Rattle.std.proofs.Common.{ap, ◌∙◌}
use Rattle.vtep_base.specs.Maps as maps
use Rattle.vtep_base.specs.Maps.{Map}
use Rattle.fabric_world.specs.declared.Network.{Network}
use Rattle.fabric_world.specs.Intentions.{Intention, bytes_cmp}
use Rattle.vtep_fabric.proofs.intention.Intention.put_switch.Goals as goal

pub returns-clause-ok : goal.returns-clause-ok
returns-clause-ok c =
    let seen : Map bytes_cmp Network → Intention = λ m. record { switches = m; bindings = maps.of_list c.self.inside.bindings; acls = maps.of_list c.self.inside.acls; guards = maps.of_list c.self.inside.guards } in
    let with : Intention → Intention = λ i. record { switches = maps.insert i.switches c.args.name c.args.network; bindings = i.bindings; acls = i.acls; guards = i.guards } in
    ap seen c.in_ok-put.ensures.ok ∙ ap with c.self.view_is
