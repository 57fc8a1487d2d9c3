use Rattle.std.proofs.Common.{◌≡◌, map, take}
use Rattle.forward_program.specs.Sent.{out_of}
use Rattle.forward_program.proofs.sent.frames.Given as goal

abbrev pub invariant-ports : goal.invariant-ports
invariant-ports l = l.outs ≡ map (out_of l.inner) (take l.port-index l.ports)
