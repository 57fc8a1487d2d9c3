use Rattle.std.proofs.Common.{ap, ◌∙◌}
use Rattle.std.specs.Cmp.{nat_cmp_total}
use Rattle.std.proofs.lemmas.Map.Lookups.{exact_unsigned}
use Rattle.vtep_base.specs.Maps as maps
use Rattle.vtep_base.proofs.Held.{one_given}
use Rattle.vtep_gateway.proofs.monitors.Monitors.put.Goals as goal

pub returns : goal.returns
returns c =
    one_given nat_cmp_total exact_unsigned c.self.inside.by_session.entries c.insert.new.self.entries c.args.session c.args.monitors c.in_ok-insert.ensures.updates.0
    ∙ ap (λ m. maps.insert m c.args.session c.args.monitors) c.self.view_is
