use Rattle.std.proofs.Common.{◌≡◌, [], ◌∷◌, ◌++◌, OnOk, subst, ap, ◌∙◌}
use Rattle.vtep_base.specs.Maps as maps
use Rattle.vtep_gateway.specs.Monitors.{with_monitor}
use Rattle.vtep_gateway.proofs.Open.{put_back}
use Rattle.vtep_gateway.proofs.monitors.Monitors.add.Goals as goal

pub returns : goal.returns
returns c =
    let is : maps.insert c.take-monitors.new.self c.args.session c.push.new.self ≡ with_monitor c.args.self.now c.args.session c.args.monitor =
    ap (λ m. maps.insert m c.args.session c.push.new.self) c.take-monitors.ensures.left ∙ put_back c.args.self.now c.args.session c.push.new.self
    ∙ ap (maps.insert c.args.self.now c.args.session) (c.in_ok-push.ensures.ok ∙ ap (λ ws. ws ++ c.args.monitor ∷ []) c.take-monitors.ensures.monitors) in
    subst (λ m. OnOk c.put.result (c.put.new.self ≡ m)) is c.put.ensures
