use Rattle.std.proofs.Common.{ap, ◌∙◌}
use Rattle.vtep_base.specs.Reading.{Bytes}
use Rattle.vtep_base.specs.Maps as maps
use Rattle.vtep_base.specs.Maps.{Map}
use Rattle.fabric_world.specs.Intentions.{Intention, binding_cmp}
use Rattle.vtep_fabric.proofs.intention.Intention.put_binding.Goals as goal

pub returns-clause-ok : goal.returns-clause-ok
returns-clause-ok c =
    let seen : Map binding_cmp Bytes → Intention = λ m. record { switches = maps.of_list c.self.inside.switches; bindings = m; acls = maps.of_list c.self.inside.acls; guards = maps.of_list c.self.inside.guards } in
    let with : Intention → Intention = λ i. record { switches = i.switches; bindings = maps.insert i.bindings c.args.binding c.args.switch; acls = i.acls; guards = i.guards } in
    ap seen c.in_ok-put.ensures.ok ∙ ap with c.self.view_is
