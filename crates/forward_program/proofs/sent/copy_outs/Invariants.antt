use Rattle.std.proofs.Common.{◌≡◌, take}
use Rattle.forward_program.proofs.sent.copy_outs.Given as goal

abbrev pub invariant-outs : goal.invariant-outs
invariant-outs l = l.copy ≡ take l.out-index l.outs
