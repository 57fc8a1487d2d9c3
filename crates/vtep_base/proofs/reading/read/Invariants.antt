use Rattle.std.proofs.Common.{◌≡◌, drop}
use Rattle.vtep_base.specs.Reading.{read_on}
use Rattle.vtep_base.proofs.reading.read.Given as goal

abbrev pub invariant-bytes : goal.invariant-bytes
invariant-bytes g l = read_on g.F.Front.step g.F.Front.done l.offset l.front (drop l.offset l.text) ≡ read_on g.F.Front.step g.F.Front.done 0 l.fn.front l.fn.text
