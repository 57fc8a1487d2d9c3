use Rattle.std.proofs.Common.{◌∙◌}
use Rattle.forward_program.proofs.AclsFollowed.{tail_here, tail_later}
use Rattle.forward_program.proofs.follow.acl_tail.Goals as goal

pub returns-then-is_of_acl : goal.returns-then-is_of_acl
returns-then-is_of_acl c = c.split_at.ensures.back ∙ tail_here c.args.change.now c.change.at c.index-change-at.result c.change-test.true c.index-change-at.is c.if-is_of_acl.ensures c.change.invariant

pub change-preserved : goal.change-preserved
change-preserved c = tail_later c.args.change.now c.change.at c.index-change-at.result c.change-test.true c.index-change-at.is c.if-is_of_acl.ensures c.change.invariant
