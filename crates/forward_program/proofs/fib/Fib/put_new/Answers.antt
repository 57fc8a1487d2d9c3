use Rattle.forward_program.specs.Spots.{spot_total}
use Rattle.forward_program.proofs.SpotOrder.{spot_exact}
use Rattle.forward_program.proofs.MapLists.{put_again}
use Rattle.forward_program.proofs.fib.Fib.put_new.Goals as goal

pub returns-then-holds-clause-ok : goal.returns-then-holds-clause-ok
returns-then-holds-clause-ok g c = put_again spot_total spot_exact c.args.self.now.entries c.args.spot c.args.held (c.holds.ensures c.if-holds.true)
