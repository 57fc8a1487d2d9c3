use Rattle.std.proofs.Common.{[], ◌∷◌, ◌++◌, take, sym, ap, ◌∙◌}
use Rattle.std.specs.List.{flat_map}
use Rattle.std.proofs.lemmas.List.{flat_map_more, take_more}
use Rattle.vtep_gateway.specs.Monitors.{told}
use Rattle.vtep_gateway.proofs.open_monitors.tell_each.Goals as goal

pub monitors-preserved : goal.monitors-preserved
monitors-preserved c old new is =
    let told_before = take c.monitors.monitor-index c.args.monitors.now in
    c.in_ok-tell.ensures old new is
    ∙ ap (λ l. l ++ told old new c.args.session c.monitor-item.result) (c.monitors.invariant old new is)
    ∙ flat_map_more (told old new c.args.session) c.args.sends.now told_before c.monitor-item.result
    ∙ ap (λ ws. c.args.sends.now ++ flat_map (told old new c.args.session) ws)
    (sym (take_more c.args.monitors.now c.monitors.monitor-index c.monitor-item.result c.monitors-test.true ∙ ap (λ w. told_before ++ w ∷ []) (sym c.monitor-item.is)))
