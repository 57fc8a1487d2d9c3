use Rattle.forward_program.proofs.FactLaws.{facts_built, built_facts}
use Rattle.forward_program.proofs.Once.{facts_apart, one_place}
use Rattle.forward_program.proofs.laws.facts_are_built.Goals as goal

pub returns-clause-built : goal.returns-clause-built
returns-clause-built c r learnt rows sound once f = (facts_built r learnt rows sound once f, built_facts r learnt rows sound once f)

pub returns-clause-once : goal.returns-clause-once
returns-clause-once c m = facts_apart m

pub returns-clause-one_place : goal.returns-clause-one_place
returns-clause-one_place c r learnt rows sound once switch mac a b is js = one_place r learnt rows sound once switch mac a b is js
