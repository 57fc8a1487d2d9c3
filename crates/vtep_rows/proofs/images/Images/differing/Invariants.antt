use Rattle.std.proofs.Common.{◌≡◌, ◌++◌}
use Rattle.vtep_rows.specs.Database.{differing_in}
use Rattle.vtep_rows.proofs.images.Images.differing.Given as goal

abbrev pub invariant-images : goal.invariant-images
invariant-images l = l.ids ++ differing_in l.table l.rows l.key-iterator ≡ differing_in l.table l.rows l.self.list
