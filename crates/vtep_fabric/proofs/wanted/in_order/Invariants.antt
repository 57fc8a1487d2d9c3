use Rattle.std.proofs.Common.{◌≡◌, ◌++◌}
use Rattle.vtep_fabric.proofs.wanted.in_order.Given as goal

abbrev pub invariant-ordered : goal.invariant-ordered
invariant-ordered g l = l.list ++ l.key-iterator ≡ l.fn.ordered.keys
