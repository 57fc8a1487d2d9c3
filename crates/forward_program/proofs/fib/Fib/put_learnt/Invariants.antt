use Rattle.std.proofs.Common.{◌≡◌}
use Rattle.forward_program.specs.Hosts.{with_learnt}
use Rattle.forward_program.proofs.fib.Fib.put_learnt.Given as goal

abbrev pub invariant-entries : goal.invariant-entries
invariant-entries g l = record {
  put : with_learnt l.entry-iterator l.self.entries ≡ with_learnt l.learned.entries l.initial.self.entries;
  same : l.self.broken ≡ l.initial.self.broken;
}
