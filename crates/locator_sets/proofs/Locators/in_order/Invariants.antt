use Rattle.std.proofs.Common.{◌≡◌, drop}
use Rattle.std.specs.Prelude.{not, ◌==◌, filter, filter_map}
use Rattle.std.specs.Ordering.{nat_cmp}
use Rattle.vtep_base.specs.Maps as maps
use Rattle.locator_sets.specs.Locators.{with_each, other_addresses}
use Rattle.locator_sets.proofs.Locators.in_order.Given as goal

abbrev pub invariant-members : goal.invariant-members
invariant-members l =
    with_each l.ordered.keys (filter (λ ip. not (ip == l.own)) (filter_map (maps.get (maps.map_by nat_cmp l.self-inside.addresses)) (drop l.member-index l.members)))
    ≡ other_addresses (maps.get l.fn.self.addresses) l.fn.own l.fn.members
