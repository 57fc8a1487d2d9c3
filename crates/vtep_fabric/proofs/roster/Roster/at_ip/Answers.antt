use Rattle.std.proofs.Common.{option_map, find, sym, ap, ◌∙◌}
use Rattle.fabric_world.specs.Happenings.{has_ip}
use Rattle.vtep_fabric.proofs.Rosters.{first-seen, list-gateways}
use Rattle.vtep_fabric.proofs.roster.Roster.at_ip.Goals as goal

pub returns : goal.returns
returns c =
    let es = c.self.inside.gateways.entries in
    c.first_with_ip.ensures.first ∙ sym (first-seen (has_ip c.args.ip) es)
    ∙ ap (λ gs. option_map (λ e. e.0) (find (has_ip c.args.ip) gs)) (sym (list-gateways es c.first_with_ip.ensures.ordered) ∙ ap (λ r. r.list) c.self.view_is)
