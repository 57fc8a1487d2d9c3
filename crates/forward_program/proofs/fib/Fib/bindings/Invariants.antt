use Rattle.std.proofs.Common.{◌≡◌, ◌+◌}
use Rattle.std.specs.List.{count_by}
use Rattle.forward_program.specs.Rooms.{is_binding}
use Rattle.forward_program.proofs.fib.Fib.bindings.Given as goal

abbrev pub invariant-entries : goal.invariant-entries
invariant-entries g l = l.count + count_by is_binding l.spot-iterator ≡ count_by is_binding l.self.entries.list
