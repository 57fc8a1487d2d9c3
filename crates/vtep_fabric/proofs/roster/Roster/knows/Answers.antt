use Rattle.std.proofs.Common.{sym, ap, ◌∙◌}
use Rattle.vtep_base.specs.Maps as maps
use Rattle.vtep_fabric.proofs.Rosters.{has-gateways}
use Rattle.vtep_fabric.proofs.roster.Roster.knows.Goals as goal

pub returns : goal.returns
returns c =
    c.contains_key.ensures ∙ sym (has-gateways c.self.inside.gateways.entries c.args.name.now)
    ∙ ap (λ r. maps.has r c.args.name.now) c.self.view_is
