use Rattle.std.proofs.Common.{ap, ◌∙◌}
use Rattle.vtep_base.specs.Maps as maps
use Rattle.vtep_fabric.proofs.Rosters.{one-gateway}
use Rattle.vtep_fabric.proofs.roster.Roster.add.Goals as goal

pub returns : goal.returns
returns c =
    let es = c.self.inside.gateways.entries in
    let fs = c.insert.new.self.entries in
    let h = c.in_ok-site.site in
    one-gateway es fs c.args.name h (c.in_ok-insert.ensures.updates.0)
    ∙ ap (λ r. maps.insert r c.args.name h.state) c.self.view_is
    ∙ ap (λ g. maps.insert c.args.self.now c.args.name g.state) c.in_ok-site.ensures
