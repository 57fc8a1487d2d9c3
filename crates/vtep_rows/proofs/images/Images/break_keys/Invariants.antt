use Rattle.std.proofs.Common.{◌≡◌}
use Rattle.vtep_rows.specs.Database.{any_doubled}
use Rattle.vtep_rows.proofs.images.Images.break_keys.Given as goal

abbrev pub invariant-images : goal.invariant-images
invariant-images l = any_doubled l.rows l.key-iterator ≡ any_doubled l.rows l.self.list
