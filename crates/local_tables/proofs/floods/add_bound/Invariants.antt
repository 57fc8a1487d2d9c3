use Rattle.std.proofs.Common.{◌≡◌, ◌++◌}
use Rattle.std.specs.List.{flat_map}
use Rattle.std.specs.Vec.Iter.{into_iter_items}
use Rattle.vtep_schema.specs.declared.Table.TheVariants.{PhysicalPort}
use Rattle.vtep_rows.specs.Rows.{row_at}
use Rattle.local_tables.specs.Following.{switches_of}
use Rattle.local_tables.proofs.floods.add_bound.Given as goal

abbrev pub invariant-ports : goal.invariant-ports
invariant-ports l =
    l.switches ++ flat_map (λ id. switches_of (row_at l.database.committed (PhysicalPort, id)) ++ switches_of (row_at l.database.current (PhysicalPort, id))) (into_iter_items l.id-iterator)
    ≡ l.initial.switches ++ flat_map (λ id. switches_of (row_at l.database.committed (PhysicalPort, id)) ++ switches_of (row_at l.database.current (PhysicalPort, id))) (into_iter_items l.initial.id-iterator)
