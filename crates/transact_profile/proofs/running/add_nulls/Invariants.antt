use Rattle.std.proofs.Common.{◌≡◌, ◌++◌, map}
use Rattle.std.specs.Prelude.{replicate}
use Rattle.transact_profile.specs.Finish.{seen}
use Rattle.transact_profile.specs.Meaning.{Null}
use Rattle.transact_profile.proofs.running.add_nulls.Given as goal

abbrev pub invariant-left : goal.invariant-left
invariant-left l = map seen l.results ++ replicate l.left Null ≡ map seen l.fn.results ++ replicate l.fn.count Null

abbrev pub decreases-left : goal.decreases-left
decreases-left l = l.left
