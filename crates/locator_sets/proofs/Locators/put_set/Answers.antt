use Rattle.std.proofs.Common.{ℕ, List, ap, ◌∙◌}
use Rattle.std.specs.Ordering.{nat_cmp}
use Rattle.vtep_base.specs.Maps as maps
use Rattle.locator_sets.specs.Locators.{Locators}
use Rattle.locator_sets.proofs.Locators.put_set.Goals as goal

pub returns-clause-ok : goal.returns-clause-ok
returns-clause-ok c =
    let seen : maps.Map nat_cmp (List ℕ) → Locators = λ m. record { addresses = maps.of_list c.self.inside.addresses; sets = m } in
    let with : List ℕ → Locators → Locators = λ xs l. record { addresses = l.addresses; sets = maps.insert l.sets c.args.id xs } in
    ap seen c.in_ok-put.ensures.ok ∙ ap (with c.from_vec-members.result) c.self.view_is
    ∙ ap (λ xs. with xs c.args.self.now) (c.from_vec-members.ensures ∙ c.in_ok-from_slice.ensures.items)
