use Rattle.std.proofs.Common.{◌≡◌, map, take}
use Rattle.serde_json.specs.View.{view}
use Rattle.transact_profile.specs.Finish.{seen, reply_json}
use Rattle.transact_profile.proofs.results.results_json.Given as goal

abbrev pub invariant-results : goal.invariant-results
invariant-results l = map view l.items.items ≡ map reply_json (map seen (take l.outcome-index l.results))
