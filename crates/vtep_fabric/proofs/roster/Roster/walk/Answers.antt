use Rattle.std.proofs.Common.{map, sym, ap, ◌∙◌}
use Rattle.vtep_base.specs.Maps as maps
use Rattle.vtep_gateway.specs.Gateway.{Held}
use Rattle.vtep_fabric.proofs.Rosters.{states-seen, list-gateways}
use Rattle.vtep_fabric.proofs.roster.Roster.walk.Goals as goal

pub returns : goal.returns
returns c =
    let es = c.self.inside.gateways.entries in
    ap (map (λ (h : Held). h.state)) (c.of.ensures ∙ ap (map (λ e. e.1)) c.iter.ensures.rest) ∙ states-seen es
    ∙ ap (map (λ e. e.1)) (sym (list-gateways es c.iter.ensures.ordered)) ∙ ap maps.values c.self.view_is
