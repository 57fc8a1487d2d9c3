use Rattle.std.proofs.Common.{◌≡◌, ◌≤◌, ◌+◌, drop, vec_len, vec_capacity}
use Rattle.std.specs.List.{filter_map}
use Rattle.locator_sets.specs.Locators.{with_each}
use Rattle.forward_program.specs.Joins.{address_at}
use Rattle.forward_program.proofs.fib.Fib.put_addresses.Given as goal

abbrev pub invariant-locators : goal.invariant-locators
invariant-locators g l = record {
  put : with_each l.addresses.items (filter_map (address_at l.self.entries) (drop l.locator-index l.locator-items))
      ≡ with_each l.initial.addresses.items (filter_map (address_at l.self.entries) l.locator-items);
  len : vec_len l.addresses ≤ vec_len l.initial.addresses + l.locator-index;
  capacity : vec_capacity l.initial.addresses ≤ vec_capacity l.addresses;
}
