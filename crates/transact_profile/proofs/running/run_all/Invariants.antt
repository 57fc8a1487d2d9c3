use Rattle.std.proofs.Common.{◌≡◌, [], map, drop}
use Rattle.transact_profile.specs.Finish.{seen}
use Rattle.transact_profile.specs.Meaning.{run_from}
use Rattle.transact_profile.proofs.running.run_all.Given as goal

abbrev pub invariant-ops : goal.invariant-ops
invariant-ops l =
    (run_from l.names (map seen l.results) l.database.current (drop l.op-index l.ops) ≡ run_from l.names [] l.fn.database.current l.ops)
    × (l.database.committed ≡ l.fn.database.committed)
