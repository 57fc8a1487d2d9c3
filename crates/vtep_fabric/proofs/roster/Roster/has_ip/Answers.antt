use Rattle.std.proofs.Common.{sym, ap, ◌∙◌}
use Rattle.std.specs.List.{list_any}
use Rattle.fabric_world.specs.Happenings.{has_ip}
use Rattle.vtep_fabric.proofs.Rosters.{any-seen, list-gateways}
use Rattle.vtep_fabric.proofs.roster.Roster.has_ip.Goals as goal

pub returns : goal.returns
returns c =
    let es = c.self.inside.gateways.entries in
    c.one_has_ip.ensures.any ∙ sym (any-seen (has_ip c.args.ip) es)
    ∙ ap (list_any (has_ip c.args.ip)) (sym (list-gateways es c.one_has_ip.ensures.ordered) ∙ ap (λ r. r.list) c.self.view_is)
