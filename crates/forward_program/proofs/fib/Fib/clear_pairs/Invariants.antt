use Rattle.std.proofs.Common.{◌≡◌, drop, true}
use Rattle.std.specs.List.{list_all, flat_map}
use Rattle.std.specs.Option.{option_map}
use Rattle.vtep_rows.specs.Row.{Contents}
use Rattle.forward_program.specs.Readings.{number_and_id, is_vlan}
use Rattle.forward_program.specs.Spots.{Entries}
use Rattle.forward_program.specs.Shown.{pair_entries}
use Rattle.forward_program.specs.Follows.{places, port_places, IsCleared}
use Rattle.forward_program.proofs.fib.Fib.clear_pairs.Given as goal

abbrev pub invariant-pairs : goal.invariant-pairs
invariant-pairs g l = record {
  small : list_all is_vlan (drop l.pair-index l.pairs) ≡ true;
  cleared : (row : Contents) (n : Entries)
      → IsCleared l.self.entries n (places (flat_map (λ p. pair_entries l.port row (number_and_id p)) (drop l.pair-index l.pairs))) (port_places (option_map (λ r. r.now) l.new))
      → IsCleared l.initial.self.entries n (places (flat_map (λ p. pair_entries l.port row (number_and_id p)) l.pairs)) (port_places (option_map (λ r. r.now) l.new));
  same : l.self.broken ≡ l.initial.self.broken;
}
