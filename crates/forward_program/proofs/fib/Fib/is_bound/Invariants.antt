use Rattle.std.proofs.Common.{◌≡◌}
use Rattle.forward_program.specs.Joins.{is_some_member, members_from, is_bound_at}
use Rattle.forward_program.proofs.fib.Fib.is_bound.Given as goal

abbrev pub invariant-members : goal.invariant-members
invariant-members g l = is_some_member (members_from l.switch l.spot-iterator) ≡ is_bound_at l.self.entries l.switch
