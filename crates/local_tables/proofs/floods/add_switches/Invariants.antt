use Rattle.std.proofs.Common.{◌≡◌, ◌++◌}
use Rattle.std.specs.List.{filter_map}
use Rattle.std.specs.Vec.Iter.{into_iter_items}
use Rattle.local_tables.specs.Following.{switch_in}
use Rattle.local_tables.proofs.floods.add_switches.Given as goal

abbrev pub invariant-references : goal.invariant-references
invariant-references l = l.switches ++ filter_map switch_in (into_iter_items l.key-iterator) ≡ l.initial.switches ++ filter_map switch_in (into_iter_items l.initial.key-iterator)
