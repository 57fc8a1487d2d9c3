use Rattle.std.specs.Option.{option_map}
use Rattle.forward_program.specs.Follows.{port_places}
use Rattle.forward_program.specs.Readings.{number_and_id, is_vlan}
use Rattle.forward_program.specs.Shown.{pair_entries}
use Rattle.std.proofs.Common.{◌∙◌}
use Rattle.forward_program.proofs.ClearRows.{one_cleared, still_pass, none_left}
use Rattle.forward_program.proofs.fib.Fib.clear_pairs.Goals as goal

pub pairs-preserved : goal.pairs-preserved
pairs-preserved g c = record {
  small = still_pass c.args.pairs.now c.pairs.pair-index c.pair-item.result c.pairs-test.true c.pair-item.is is_vlan c.pairs.invariant.small;
  cleared = λ row n later. c.pairs.invariant.cleared row n
      (one_cleared c.args.pairs.now c.pairs.pair-index c.pair-item.result c.pairs-test.true c.pair-item.is (λ p. pair_entries c.args.port row (number_and_id p))
      c.pairs.self.entries c.clear_pair.new.self.entries n _ (c.clear_pair.ensures.cleared row) later);
  same = c.clear_pair.ensures.same ∙ c.pairs.invariant.same;
}

pub returns-clause-cleared : goal.returns-clause-cleared
returns-clause-cleared g c row = c.pairs.invariant.cleared row c.pairs.self.entries (none_left (λ p. pair_entries c.args.port row (number_and_id p)) c.pairs.self.entries c.args.pairs.now c.pairs.pair-index (port_places (option_map (λ r. r.now) c.args.new)) c.pairs-test.false)
