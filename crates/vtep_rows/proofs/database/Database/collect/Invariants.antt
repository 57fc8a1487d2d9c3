use Rattle.std.proofs.Common.{◌≡◌}
use Rattle.vtep_rows.specs.Database.{IsCollecting, from_place}
use Rattle.vtep_rows.proofs.database.Database.collect.Given as goal

abbrev pub invariant-tables : goal.invariant-tables
invariant-tables l = record {
  committed : l.self.committed ≡ l.initial.self.committed;
  current : l.self.current ≡ record l.initial.self.current { rows = l.self.current.rows };
  rows : IsCollecting l.initial.self.current.rows l.self.current.rows (from_place l.table-index l.candidates.keys);
}
