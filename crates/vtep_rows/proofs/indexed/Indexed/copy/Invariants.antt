use Rattle.std.proofs.Common.{◌≡◌}
use Rattle.vtep_rows.specs.Row.{put_all}
use Rattle.vtep_rows.proofs.indexed.Indexed.copy.Given as goal

abbrev pub invariant-rows : goal.invariant-rows
invariant-rows l = put_all l.copy l.key-iterator ≡ l.self
