use Rattle.std.proofs.Common.{◌++◌, Some, ap, ◌∙◌}
use Rattle.vtep_base.specs.Maps as maps
use Rattle.vtep_base.specs.Maps.{Map}
use Rattle.vtep_base.specs.Reading.{Bytes}
use Rattle.fabric_world.specs.Intentions.{binding_cmp}
use Rattle.vtep_fabric.proofs.Bindings.{leading, walk_leads}
use Rattle.vtep_fabric.proofs.wanted.bound_in.Goals as goal

pub bindings-init : goal.bindings-init
bindings-init c =
    let g = c.args.gateway in
    let p = c.args.port in
    let m : Map binding_cmp Bytes = maps.map_by binding_cmp c.args.bindings.now in
    (λ i. c.new-list.ensures i ++ leading g p (c.into_iter-binding-iterator.ensures.into_iter_gives i))
    ∙ ap (leading g p) (c.walk-binding-items.ensures.rest ∙ ap (λ v. maps.not_below binding_cmp (Some (record { gateway = g; port = p; vlan = v })) m) c.new.ensures)
    ∙ walk_leads g p m
