use Rattle.forward_program.proofs.WayLaws.{way_told}
use Rattle.forward_program.proofs.fib.Fib.hop.Goals as goal

pub returns-clause-built : goal.returns-clause-built
returns-clause-built g c r learnt rows sound once is = way_told _ _ c.args.self.now.entries _ _ r learnt rows sound once is c.hop_from.ensures.way
