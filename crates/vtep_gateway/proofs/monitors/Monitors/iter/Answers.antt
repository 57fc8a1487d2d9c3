use Rattle.std.proofs.Common.{sym, ap, ◌∙◌}
use Rattle.std.specs.Cmp.{nat_cmp_total}
use Rattle.vtep_base.proofs.Held.{list-of_list}
use Rattle.vtep_gateway.proofs.monitors.Monitors.iter.Goals as goal

pub returns : goal.returns
returns c = c.iter.ensures.rest ∙ sym (list-of_list nat_cmp_total c.self.inside.by_session.entries c.iter.ensures.ordered) ∙ ap (λ m. m.list) c.self.view_is
