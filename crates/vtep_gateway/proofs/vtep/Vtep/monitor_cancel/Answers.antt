use Rattle.std.proofs.Common.{ap, ◌∙◌}
use Rattle.std.specs.Prelude.{string_bytes}
use Rattle.serde_json.specs.View.{view}
use Rattle.vtep_base.specs.Maps as maps
use Rattle.vtep_gateway.specs.Monitors.{monitors_of, others}
use Rattle.vtep_gateway.specs.Methods.{cancel_in}
use Rattle.vtep_gateway.proofs.Monitored.{closed}
use Rattle.vtep_gateway.specs.contracts.vtep.Vtep.{the_view}
use Rattle.vtep_gateway.proofs.vtep.Vtep.monitor_cancel.Goals as goal

pub returns-in_ok-cancel-in-Ok-clause-left : goal.returns-in_ok-cancel-in-Ok-clause-left
returns-in_ok-cancel-in-Ok-clause-left c =
    let m = c.self.inside.monitors in
    closed (the_view c.self.inside) c.args.session (view c.args.params.now) c.of.result.now (string_bytes c.in-Ok.name) c.cancel.new.self
    c.of.ensures c.in-Ok.ensures.ok (c.in_ok-cancel-in-Ok.ensures ∙ ap (λ name. maps.insert m c.args.session (others (monitors_of m c.args.session) name)) c.as_str.ensures.value)
    ∙ ap (λ v. (cancel_in v c.args.session (view c.args.params.now)).vtep) c.self.view_is
