use Rattle.std.proofs.Common.{◌≡◌, drop}
use Rattle.vtep_rows.specs.Marks.{stamp_from, stamp_of}
use Rattle.vtep_rows.proofs.stamps.stamp_of.Given as goal

abbrev pub invariant-columns : goal.invariant-columns
invariant-columns l = stamp_from l.stamp (drop l.column-index l.columns) l.row ≡ stamp_of l.row l.columns
