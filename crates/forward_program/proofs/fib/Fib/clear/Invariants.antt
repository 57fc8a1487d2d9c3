use Rattle.std.proofs.Common.{◌≡◌, length}
use Rattle.forward_program.proofs.fib.Fib.clear.Given as goal

abbrev pub invariant-entries : goal.invariant-entries
invariant-entries g l = l.self.broken ≡ l.fn.self.broken

abbrev pub decreases-entries : goal.decreases-entries
decreases-entries g l = length l.self.entries.list
