use Rattle.std.specs.Vec.Iter.{into_iter_items}
use Rattle.local_tables.proofs.Versioned.{one_distinct}
use Rattle.local_tables.proofs.floods.distinct.Goals as goal

pub switches-preserved : goal.switches-preserved
switches-preserved c = λ i.
    one_distinct c.switches.set.keys c.insert.new.self.keys c.in-Some.switch (into_iter_items c.next.new.self) (into_iter_items c.switches.switch-iterator) c.args.switches c.in_ok-insert.ensures.keys c.in-Some.ensures.steps.0 i
    (c.switches.invariant i)
