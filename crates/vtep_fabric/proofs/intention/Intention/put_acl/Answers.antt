use Rattle.std.proofs.Common.{List, ap, ◌∙◌}
use Rattle.vtep_base.specs.Maps as maps
use Rattle.vtep_base.specs.Maps.{Map}
use Rattle.fabric_world.specs.declared.WantedEntry.{WantedEntry}
use Rattle.fabric_world.specs.Intentions.{Intention, bytes_cmp}
use Rattle.vtep_fabric.proofs.intention.Intention.put_acl.Goals as goal

pub returns : goal.returns
returns c =
    let seen : Map bytes_cmp (List WantedEntry) → Intention = λ m. record { switches = maps.of_list c.self.inside.switches; bindings = maps.of_list c.self.inside.bindings; acls = m; guards = maps.of_list c.self.inside.guards } in
    let with : Intention → Intention = λ i. record { switches = i.switches; bindings = i.bindings; acls = maps.insert i.acls c.args.name c.args.entries; guards = i.guards } in
    ap seen c.in_ok-put.ensures.ok ∙ ap with c.self.view_is
