use Rattle.forward_program.proofs.Clearing.{one_removed}
use Rattle.forward_program.proofs.fib.Fib.clear_spot.Goals as goal

pub returns-clause-cleared : goal.returns-clause-cleared
returns-clause-cleared g c staying h = one_removed c.args.self.now.entries c.remove.new.self.entries c.args.spot.now staying c.remove.ensures.entries
