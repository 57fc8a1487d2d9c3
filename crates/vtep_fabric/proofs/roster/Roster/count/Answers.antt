use Rattle.std.proofs.Common.{sym, ap, ◌∙◌}
use Rattle.vtep_base.specs.Maps as maps
use Rattle.vtep_fabric.proofs.Rosters.{size-gateways}
use Rattle.vtep_fabric.proofs.roster.Roster.count.Goals as goal

pub returns : goal.returns
returns c =
    c.len.ensures.len ∙ sym (size-gateways c.self.inside.gateways.entries c.len.ensures.ordered)
    ∙ ap maps.size c.self.view_is
