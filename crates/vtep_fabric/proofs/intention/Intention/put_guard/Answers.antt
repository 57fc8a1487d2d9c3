use Rattle.std.proofs.Common.{ap, ◌∙◌}
use Rattle.vtep_base.specs.Reading.{Bytes}
use Rattle.vtep_base.specs.Maps as maps
use Rattle.vtep_base.specs.Maps.{Map}
use Rattle.fabric_world.specs.Intentions.{Intention, binding_cmp}
use Rattle.vtep_fabric.proofs.intention.Intention.put_guard.Goals as goal

pub returns-clause-ok : goal.returns-clause-ok
returns-clause-ok c =
    let seen : Map binding_cmp Bytes → Intention = λ m. record { switches = maps.of_list c.self.inside.switches; bindings = maps.of_list c.self.inside.bindings; acls = maps.of_list c.self.inside.acls; guards = m } in
    let with : Intention → Intention = λ i. record { switches = i.switches; bindings = i.bindings; acls = i.acls; guards = maps.insert i.guards c.args.binding c.args.name } in
    ap seen c.in_ok-put.ensures.ok ∙ ap with c.self.view_is
