use Rattle.std.proofs.Common.{◌≡◌, ◌++◌}
use Rattle.local_tables.proofs.floods.in_order.Given as goal

abbrev pub invariant-set : goal.invariant-set
invariant-set l = l.ids ++ l.switch-iterator ≡ l.set.keys
