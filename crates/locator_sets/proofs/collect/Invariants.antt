use Rattle.std.proofs.Common.{◌≡◌, ◌++◌}
use Rattle.locator_sets.proofs.collect.Given as goal

abbrev pub invariant-ordered : goal.invariant-ordered
invariant-ordered l = l.list.items ++ l.ip-iterator ≡ l.fn.ordered.keys
