use Rattle.std.proofs.Common.{◌≡◌, ◌++◌, map}
use Rattle.std.specs.List.{filter_map}
use Rattle.forward_program.specs.declared.spots.Spot.{Spot}
use Rattle.forward_program.specs.declared.held.Held.{Held}
use Rattle.forward_program.specs.Joins.{fact_at, facts_of}
use Rattle.forward_program.proofs.fib.Fib.list_facts.Given as goal

abbrev pub invariant-entries : goal.invariant-entries
invariant-entries g l = l.facts ++ filter_map (fact_at l.self.entries) (map (λ (e : Spot × Held). e.0) l.spot-iterator) ≡ facts_of l.self.entries
