use Rattle.std.proofs.Common.{◌≡◌, length}
use Rattle.vtep_gateway.specs.Good.{IsGood}
use Rattle.vtep_gateway.specs.Ready.{fib_of}
use Rattle.vtep_gateway.proofs.Taken.{StillTakes}
use Rattle.vtep_gateway.proofs.vtep.Vtep.take_all.Given as goal

abbrev pub invariant-messages : goal.invariant-messages
invariant-messages g l = record {
  takes : StillTakes l.session l.self l.fn.self l.framer l.fn.framer l.sends l.fn.sends;
  good : IsGood l.self.rows l.self.learned;
  fib : l.fib ≡ fib_of l.self.rows l.self.learned;
}

abbrev pub decreases-messages : goal.decreases-messages
decreases-messages g l = length l.framer.rest
