use Rattle.forward_program.proofs.ClearRows.{pair_cleared}
use Rattle.forward_program.proofs.fib.Fib.clear_pair.Goals as goal

pub returns-clause-cleared : goal.returns-clause-cleared
returns-clause-cleared g c row =
    pair_cleared c.args.self.now.entries c.clear_spot.new.self.entries c.clear_spot-2.new.self.entries c.args.port row c.in-Some.bound.0 c.in-Some.bound.1 _ c.bound_if-after.result c.is_some.result c.is_some-2.result _
    c.in-Some.ensures c.bound_if-after.ensures c.is_some.ensures c.is_some-2.ensures (c.clear_spot.ensures.cleared _) (c.clear_spot-2.ensures.cleared _)
