use Rattle.std.specs.List.Sorted.{IsStrictlySortedBy}
use Rattle.forward_program.proofs.acls.entry_atoms.Goals as goal

pub returns-in_default-clause-ordered : goal.returns-in_default-clause-ordered
unfolding IsStrictlySortedBy
returns-in_default-clause-ordered c = tt
