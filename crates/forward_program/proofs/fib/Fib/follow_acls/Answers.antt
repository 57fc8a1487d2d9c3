use Rattle.forward_program.proofs.AclsFollowed.{none_followed}
use Rattle.forward_program.proofs.fib.Fib.follow_acls.Goals as goal

pub returns-then-is_empty-clause-ok : goal.returns-then-is_empty-clause-ok
returns-then-is_empty-clause-ok g c = none_followed c.args.rows.now c.args.change.now c.args.self.now.entries c.if-is_empty.ensures
