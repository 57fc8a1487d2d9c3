use Rattle.forward_program.proofs.Told.{once_told, built_told}
use Rattle.forward_program.proofs.fib.Fib.facts.Goals as goal

pub returns-clause-once : goal.returns-clause-once
returns-clause-once g c = once_told _ c.args.self.now.entries c.list_facts.ensures

pub returns-clause-built : goal.returns-clause-built
returns-clause-built g c r learnt rows sound once is = built_told _ c.args.self.now.entries r learnt rows sound once is c.list_facts.ensures
