use Rattle.std.proofs.Common.{ℕ, ap, ◌∙◌}
use Rattle.std.specs.Ordering.{nat_cmp}
use Rattle.vtep_base.specs.Maps as maps
use Rattle.locator_sets.specs.Locators.{Locators}
use Rattle.locator_sets.proofs.Locators.put.Goals as goal

pub returns-clause-ok : goal.returns-clause-ok
returns-clause-ok c =
    let seen : maps.Map nat_cmp ℕ → Locators = λ m. record { addresses = m; sets = maps.of_list c.self.inside.sets } in
    let with : Locators → Locators = λ l. record { addresses = maps.insert l.addresses c.args.id c.args.ip; sets = l.sets } in
    ap seen c.in_ok-put.ensures.ok ∙ ap with c.self.view_is
