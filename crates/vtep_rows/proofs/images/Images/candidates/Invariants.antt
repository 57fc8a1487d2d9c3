use Rattle.std.proofs.Common.{◌≡◌, ◌||◌}
use Rattle.vtep_rows.specs.Rows.{Key, has_key}
use Rattle.vtep_rows.specs.Database.{may_go}
use Rattle.vtep_rows.proofs.images.Images.candidates.Given as goal

abbrev pub invariant-images : goal.invariant-images
invariant-images l = (k : Key) → (has_key l.found.keys k || may_go l.key-iterator k) ≡ may_go l.self.list k
