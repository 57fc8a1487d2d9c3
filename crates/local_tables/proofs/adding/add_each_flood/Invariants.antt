use Rattle.std.proofs.Common.{◌≡◌, drop}
use Rattle.local_tables.specs.Followed.{with_floods}
use Rattle.local_tables.proofs.adding.add_each_flood.Given as goal

abbrev pub invariant-switches : goal.invariant-switches
invariant-switches l = record {
  committed : l.database.committed ≡ l.initial.database.committed;
  current : with_floods l.locator l.database.current (drop l.switch-index l.switches) ≡ with_floods l.locator l.initial.database.current l.switches;
}
