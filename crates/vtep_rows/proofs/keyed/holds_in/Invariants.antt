use Rattle.std.proofs.Common.{◌≡◌, drop}
use Rattle.vtep_rows.specs.Keyed.{holds_in}
use Rattle.vtep_rows.proofs.keyed.holds_in.Given as goal

abbrev pub invariant-columns : goal.invariant-columns
invariant-columns l = holds_in (drop l.column-index l.columns) l.rest l.row ≡ holds_in l.columns l.key l.row
