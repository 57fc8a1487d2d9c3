use Rattle.std.proofs.Common.{◌≡◌, true, drop}
use Rattle.std.specs.List.{list_all, flat_map}
use Rattle.vtep_rows.specs.Row.{put_all}
use Rattle.forward_program.specs.Readings.{number_and_id, is_vlan}
use Rattle.forward_program.specs.Shown.{pair_entries}
use Rattle.forward_program.proofs.fib.Fib.put_pairs.Given as goal

abbrev pub invariant-pairs : goal.invariant-pairs
invariant-pairs g l = record {
  small : list_all is_vlan (drop l.pair-index l.pairs) ≡ true;
  put : put_all l.self.entries (flat_map (λ p. pair_entries l.port l.row (number_and_id p)) (drop l.pair-index l.pairs))
      ≡ put_all l.initial.self.entries (flat_map (λ p. pair_entries l.port l.row (number_and_id p)) l.pairs);
  same : l.self.broken ≡ l.initial.self.broken;
}
