use Rattle.std.proofs.Common.{◌≡◌, drop}
use Rattle.std.specs.List.{list_all}
use Rattle.forward_program.specs.Spots.{Entries}
use Rattle.forward_program.specs.Follows.{entries_before, entries_after, was_row, places, IsCleared}
use Rattle.forward_program.proofs.fib.Fib.clear_rows.Given as goal

abbrev pub invariant-change : goal.invariant-change
invariant-change g l = record {
  rows : list_all (λ c. was_row c.old) (drop l.row-index l.change) ≡ list_all (λ c. was_row c.old) l.change;
  cleared : (n : Entries) → IsCleared l.self.entries n (places (entries_before l.own (drop l.row-index l.change))) (places (entries_after l.own l.change))
      → IsCleared l.initial.self.entries n (places (entries_before l.own l.change)) (places (entries_after l.own l.change));
  same : l.self.broken ≡ l.initial.self.broken;
}
