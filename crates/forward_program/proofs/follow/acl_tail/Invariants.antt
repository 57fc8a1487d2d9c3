use Rattle.std.proofs.Common.{◌≡◌, drop}
use Rattle.forward_program.specs.Follows.{acl_tail}
use Rattle.forward_program.proofs.follow.acl_tail.Given as goal

abbrev pub invariant-change : goal.invariant-change
invariant-change l = acl_tail (drop l.at l.change) ≡ acl_tail l.change
