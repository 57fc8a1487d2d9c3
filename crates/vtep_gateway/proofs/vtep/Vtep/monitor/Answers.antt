use Rattle.std.proofs.Common.{ap, ◌∙◌}
use Rattle.serde_json.specs.View.{view}
use Rattle.vtep_gateway.specs.Methods.{monitor_in}
use Rattle.vtep_gateway.proofs.Monitored.{opened}
use Rattle.vtep_gateway.specs.contracts.vtep.Vtep.{the_view}
use Rattle.vtep_gateway.proofs.vtep.Vtep.monitor.Goals as goal

pub returns-in_ok-add-in-Ok-clause-left : goal.returns-in_ok-add-in-Ok-clause-left
returns-in_ok-add-in-Ok-clause-left c =
    opened (the_view c.self.inside) c.args.session (view c.args.params.now) c.of.result.now c.in-Ok.monitor c.add.new.self
    c.of.ensures c.in-Ok.ensures.ok c.in_ok-add-in-Ok.ensures
    ∙ ap (λ v. (monitor_in v c.args.session (view c.args.params.now)).vtep) c.self.view_is
