use Rattle.std.proofs.Common.{sym, ap, ◌∙◌}
use Rattle.mac_learning.specs.Learning.{Learning}
use Rattle.vtep_gateway.specs.Vtep.{Vtep}
use Rattle.vtep_gateway.proofs.Moved.{one_evicted, all_evicted}
use Rattle.vtep_gateway.proofs.vtep.Vtep.evict.Goals as goal

pub gone-preserved : goal.gone-preserved
gone-preserved c = record {
  left =
      one_evicted c.args.gone.now c.gone.self-inside.learned.entries c.evict.new.self.entries c.gone.entry-index c.entry-item.result c.entry-item.result c.gone-test.true c.entry-item.is (ap (λ (k : Learning). k.entries) c.evict.ensures.gone)
      ∙ c.gone.invariant.left;
  limit = ap (λ (k : Learning). k.limit) c.evict.ensures.gone ∙ c.gone.invariant.limit;
  others = ap (λ (v : Vtep). record v { learned = c.evict.new.self.entries }) c.gone.invariant.others;
}

pub returns : goal.returns
returns c =
    c.gone.invariant.others
    ∙ ap (λ k. record c.args.self.now { learned = k }) (sym (all_evicted c.args.gone.now c.gone.self-inside.learned.entries c.gone.entry-index c.gone-test.false) ∙ c.gone.invariant.left)
