use Rattle.std.proofs.Common.{◌≡◌, OnOk, subst, ap, ◌∙◌}
use Rattle.vtep_base.specs.Maps as maps
use Rattle.vtep_gateway.specs.Monitors.{monitors_of, others}
use Rattle.vtep_gateway.proofs.Open.{put_back}
use Rattle.vtep_gateway.proofs.monitors.Monitors.cancel.Goals as goal

pub returns : goal.returns
returns c =
    let is : maps.insert c.take-monitors.new.self c.args.session c.others.result ≡ maps.insert c.args.self.now c.args.session (others (monitors_of c.args.self.now c.args.session) c.args.name.now) =
    ap (λ m. maps.insert m c.args.session c.others.result) c.take-monitors.ensures.left ∙ put_back c.args.self.now c.args.session c.others.result
    ∙ ap (maps.insert c.args.self.now c.args.session) (c.others.ensures ∙ ap (λ ws. others ws c.args.name.now) c.take-monitors.ensures.monitors) in
    subst (λ m. OnOk c.put.result (c.put.new.self ≡ m)) is c.put.ensures
