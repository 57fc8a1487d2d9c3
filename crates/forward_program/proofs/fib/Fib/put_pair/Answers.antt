use Rattle.forward_program.proofs.PortEntries.{pair_put}
use Rattle.forward_program.proofs.fib.Fib.put_pair.Goals as goal

pub returns-in-Some-clause-ok : goal.returns-in-Some-clause-ok
returns-in-Some-clause-ok g c = pair_put _ c.args.self.now.entries _ c.args.port c.args.row.now c.in-Some.bound _ _ c.lists.ensures c.in-Some.ensures c.put_binding.ensures.ok
