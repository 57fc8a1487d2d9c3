use Rattle.std.proofs.Common.{ap}
use Rattle.forward_program.specs.Spots.{State}
use Rattle.vtep_gateway.proofs.frames.hop.Goals as goal

pub returns : goal.returns
returns g c = λ v good is. c.hop.ensures.built v.rows v.learned good.settled.rows good.settled.sound good.local.once (ap (λ (s : State). s.entries) is)
