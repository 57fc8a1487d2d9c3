use Rattle.std.proofs.Common.{◌≡◌, ◌++◌}
use Rattle.mac_learning.specs.Learning.{old_at}
use Rattle.mac_learning.proofs.Learned.old_entries.Given as goal

abbrev pub invariant-entries : goal.invariant-entries
invariant-entries l = l.old ++ old_at l.now l.entry-iterator ≡ old_at l.now l.self.entries
