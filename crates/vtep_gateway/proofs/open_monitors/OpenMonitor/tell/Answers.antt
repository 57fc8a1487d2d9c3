use Rattle.std.proofs.Common.{◌≡◌, [], ◌∷◌, ◌++◌, option_map, OnOk, subst, sym, ap, ◌∙◌, append-nil}
use Rattle.serde_json.specs.View.{view}
use Rattle.monitor_updates.specs.Noted.{noted}
use Rattle.vtep_gateway.specs.Monitors.{told}
use Rattle.vtep_gateway.proofs.ToldTexts.{told_nothing, told_one}
use Rattle.vtep_gateway.proofs.open_monitors.OpenMonitor.tell.Goals as goal

pub returns-in_ok-update-in-Some : goal.returns-in_ok-update-in-Some
returns-in_ok-update-in-Some c old new is =
    let m = c.self.inside.monitor in
    let one : told old new c.args.session c.args.self.now ≡ c.in_ok-update-in-Some.field-0 ∷ [] =
    ap (told old new c.args.session) (sym c.self.view_is)
    ∙ told_one c.args.session _ (view m.id) (view c.in-Some.params) (noted m.request old new) c.self.invariant.1 (sym (c.in_ok-params.ensures.told old new is) ∙ ap (option_map view) c.in-Some.is)
    ∙ ap (λ o. o ∷ []) (sym c.in_ok-update-in-Some.ensures) in
    subst (λ l. OnOk c.push.result (c.push.new.self ≡ c.args.sends.now ++ l)) (sym one) c.push.ensures.ok

pub returns-in-None : goal.returns-in-None
returns-in-None c old new is =
    let m = c.self.inside.monitor in
    let nothing : told old new c.args.session c.args.self.now ≡ [] =
    ap (told old new c.args.session) (sym c.self.view_is)
    ∙ told_nothing c.args.session _ (view m.id) (noted m.request old new) (sym (c.in_ok-params.ensures.told old new is) ∙ ap (option_map view) c.in-None.is) in
    sym (append-nil c.args.sends.now) ∙ ap (λ l. c.args.sends.now ++ l) (sym nothing)
