use Rattle.std.proofs.Common.{◌≡◌}
use Rattle.std.specs.List.{list_any}
use Rattle.forward_program.specs.Joins.{lists_acl, is_listed_at}
use Rattle.forward_program.proofs.fib.Fib.is_listed.Given as goal

abbrev pub invariant-entries : goal.invariant-entries
invariant-entries g l = list_any (lists_acl l.acl) l.spot-iterator ≡ is_listed_at l.self.entries l.acl
