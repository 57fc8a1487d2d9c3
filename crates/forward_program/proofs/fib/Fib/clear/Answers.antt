use Rattle.forward_program.specs.Spots.{spot_total}
use Rattle.forward_program.proofs.Cleared.{one_gone, all_gone}
use Rattle.forward_program.proofs.fib.Fib.clear.Goals as goal

pub entries-smaller : goal.entries-smaller
entries-smaller g c = one_gone spot_total _ _ _ _ c.first.ensures c.in-Some.is c.remove.ensures.entries

pub returns-clause-entries : goal.returns-clause-entries
returns-clause-entries g c = all_gone c.entries.self.entries _ c.first.ensures c.in_default.is
