use Rattle.std.proofs.Common.{Some, option_map, sym, ap, ◌∙◌}
use Rattle.std.specs.Option.{option_copied}
use Rattle.vtep_base.specs.Maps as maps
use Rattle.vtep_fabric.proofs.Rosters.{get-gateways}
use Rattle.vtep_fabric.proofs.Happen.{not_known}
use Rattle.vtep_fabric.proofs.roster.Roster.show.Goals as goal

pub returns-in_default-clause-refused : goal.returns-in_default-clause-refused
returns-in_default-clause-refused c =
    let es = c.self.inside.gateways.entries in
    let none = get-gateways es c.args.name.now ∙ ap (option_map (λ h. h.state)) (sym c.get.ensures.value ∙ ap option_copied c.in_default.is) in
    rw c.refused.ensures (not_known c.args.self.now c.args.name.now (ap (λ r. maps.get r c.args.name.now) (sym c.self.view_is) ∙ none))

pub returns-clause-ok : goal.returns-clause-ok
returns-clause-ok c =
    let es = c.self.inside.gateways.entries in
    let found = get-gateways es c.args.name.now ∙ ap (option_map (λ h. h.state)) (sym c.get.ensures.value ∙ ap option_copied c.in-Some.is) in
    record {
      gateway = c.in-Some.site.now.state;
      found = ap (λ r. maps.get r c.args.name.now) (sym c.self.view_is) ∙ found;
      writes = c.in_ok-show.ensures;
    }
