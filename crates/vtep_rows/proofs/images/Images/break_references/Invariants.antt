use Rattle.std.proofs.Common.{◌≡◌}
use Rattle.vtep_rows.specs.Database.{any_dangles}
use Rattle.vtep_rows.proofs.images.Images.break_references.Given as goal

abbrev pub invariant-images : goal.invariant-images
invariant-images l = any_dangles l.rows l.key-iterator ≡ any_dangles l.rows l.self.list
