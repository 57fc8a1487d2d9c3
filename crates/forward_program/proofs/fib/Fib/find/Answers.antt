use Rattle.forward_program.proofs.Told.{found_told}
use Rattle.forward_program.proofs.fib.Fib.find.Goals as goal

pub returns-clause-built : goal.returns-clause-built
returns-clause-built g c r learnt rows sound once is place = found_told _ _ _ _ r learnt rows sound once is c.found.ensures place
