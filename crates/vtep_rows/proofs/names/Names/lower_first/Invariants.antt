use Rattle.std.proofs.Common.{◌≡◌, ◌≤◌, ◌-◌, take}
use Rattle.vtep_schema.specs.declared.Table.{Table}
use Rattle.vtep_rows.specs.Rows.{Key}
use Rattle.vtep_rows.specs.Tallies.{count_at}
use Rattle.vtep_rows.specs.Names.{named_by}
use Rattle.vtep_rows.proofs.names.Names.lower_first.Given as goal

abbrev pub invariant-keys : goal.invariant-keys
invariant-keys l = record {
  counts : (k : Key) (t : Table) → count_at l.self (k.0, k.1, t) ≡ count_at l.initial.self (k.0, k.1, t) - named_by l.of t k (take l.i l.keys);
  within : l.i ≤ l.n;
}

abbrev pub decreases-keys : goal.decreases-keys
decreases-keys l = l.n - l.i
