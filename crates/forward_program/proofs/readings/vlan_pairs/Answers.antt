use Rattle.std.proofs.Common.{rules}
use Rattle.std.specs.List.Sorted.{IsStrictlySortedBy}
use Rattle.forward_program.proofs.PortEntries.{vlans}
use Rattle.forward_program.proofs.readings.vlan_pairs.Goals as goal

pub returns-in-Some-Map-clause-vlans : goal.returns-in-Some-Map-clause-vlans
returns-in-Some-Map-clause-vlans c = vlans c.args.row.now c.as_slice.result.now c.table.ensures.row (search rules)

pub returns-in_default-clause-ordered : goal.returns-in_default-clause-ordered
unfolding IsStrictlySortedBy
returns-in_default-clause-ordered c = tt
