use Rattle.std.proofs.Common.{◌≡◌, [], drop}
use Rattle.transact_profile.specs.Refusing.{each_from}
use Rattle.transact_profile.specs.Conditions.{number_in}
use Rattle.transact_profile.specs.Mutations.{mutated_atom}
use Rattle.transact_profile.proofs.mutating.mutated_atoms.Given as goal

abbrev pub invariant-atoms : goal.invariant-atoms
invariant-atoms l = each_from (mutated_atom l.mutator (number_in l.by)) l.all (drop l.atom-index l.atoms) ≡ each_from (mutated_atom l.mutator (number_in l.by)) [] l.atoms
