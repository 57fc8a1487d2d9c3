use Rattle.std.proofs.Common.{◌≡◌, ◌++◌}
use Rattle.std.specs.List.{filter_map}
use Rattle.vtep_rows.specs.Database.{changed_at}
use Rattle.vtep_rows.proofs.images.Images.into_change.Given as goal

abbrev pub invariant-images : goal.invariant-images
invariant-images l = l.change ++ filter_map (changed_at l.rows) l.table-iterator ≡ filter_map (changed_at l.rows) l.fn.self.list
