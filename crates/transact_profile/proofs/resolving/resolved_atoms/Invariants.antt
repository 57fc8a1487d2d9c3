use Rattle.std.proofs.Common.{◌≡◌, map, take}
use Rattle.transact_profile.specs.Conditions.{resolved_atom}
use Rattle.transact_profile.proofs.resolving.resolved_atoms.Given as goal

abbrev pub invariant-atoms : goal.invariant-atoms
invariant-atoms l = l.all ≡ map (resolved_atom l.names) (take l.atom-index l.atoms)
