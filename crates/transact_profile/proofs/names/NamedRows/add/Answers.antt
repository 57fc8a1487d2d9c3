use Rattle.std.proofs.Common.{◌≡◌, OnOk, Some, ap, sym, subst, ◌∙◌}
use Rattle.transact_profile.specs.Names.{with_row}
use Rattle.transact_profile.proofs.names.NamedRows.add.Goals as goal

pub returns-in_ok-name-in-Some : goal.returns-in_ok-name-in-Some
returns-in_ok-name-in-Some c =
    let copied : Some c.in_ok-name-in-Some.name ≡ c.args.name.now = ap Some (c.in_ok-name-in-Some.ensures ∙ c.as_str.ensures) ∙ sym c.in-Some.is in
    subst (λ o. OnOk c.put.result (c.put.new.self ≡ with_row c.args.self.now o c.args.id)) copied c.put.ensures
