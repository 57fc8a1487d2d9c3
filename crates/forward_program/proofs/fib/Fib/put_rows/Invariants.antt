use Rattle.std.proofs.Common.{◌≡◌, drop}
use Rattle.vtep_rows.specs.Row.{put_all}
use Rattle.forward_program.specs.Follows.{entries_after}
use Rattle.forward_program.proofs.fib.Fib.put_rows.Given as goal

abbrev pub invariant-change : goal.invariant-change
invariant-change g l = record {
  put : put_all l.self.entries (entries_after l.own (drop l.row-index l.change)) ≡ put_all l.initial.self.entries (entries_after l.own l.change);
  same : l.self.broken ≡ l.initial.self.broken;
}
