use Rattle.std.proofs.Common.{◌≡◌, drop, map}
use Rattle.forward_program.specs.Follows.{learnt_address, asked}
use Rattle.forward_program.proofs.fib.Fib.ask_moved.Given as goal

abbrev pub invariant-moved : goal.invariant-moved
invariant-moved g l = record {
  done : asked l.learned.entries (map learnt_address (drop l.entry-index l.moved)) l.self.entries ≡ asked l.learned.entries (map learnt_address l.moved) l.initial.self.entries;
  same : l.self.broken ≡ l.initial.self.broken;
}
