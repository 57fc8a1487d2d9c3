use Rattle.std.proofs.Common.{Some, option_map, refl, sym, ap, subst, rules, ◌∙◌}
use Rattle.std.specs.Prelude.{IsSome}
use Rattle.std.specs.Option.{option_copied_mut}
use Rattle.vtep_base.specs.Maps as maps
use Rattle.vtep_fabric.proofs.Rosters.{get-gateways, one-gateway}
use Rattle.vtep_fabric.proofs.roster.Roster.give.Goals as goal

pub returns-in_default : goal.returns-in_default
returns-in_default c =
    let es = c.self.inside.gateways.entries in
    let none = get-gateways es c.args.name.now ∙ ap (option_map (λ h. h.state)) (sym c.get_mut.ensures.value ∙ ap option_copied_mut c.in_default.is) in
    (ap (λ r. maps.get r c.args.name.now) (sym c.self.view_is) ∙ none, search rules)

pub returns : goal.returns
returns c =
    let es = c.self.inside.gateways.entries in
    let fs = (c.get_mut.follows.lender c.step.new.self).entries in
    let h = c.step.new.self in
    let found = get-gateways es c.args.name.now ∙ ap (option_map (λ h. h.state)) (sym c.get_mut.ensures.value ∙ ap option_copied_mut c.in-Some.is) in
    let some : IsSome (option_copied_mut c.get_mut.result) = rw c.in-Some.is refl in
    let given = ((c.get_mut.follows.holds c.step.new.self).3 (subst IsSome c.get_mut.ensures.value some)).0 in
    record {
      before = c.in-Some.site.now.state;
      after = h.state;
      found = ap (λ r. maps.get r c.args.name.now) (sym c.self.view_is) ∙ found;
      stepped = c.in_ok-step.ensures;
      leads = one-gateway es fs c.args.name.now h given ∙ ap (λ r. maps.insert r c.args.name.now h.state) c.self.view_is;
    }
