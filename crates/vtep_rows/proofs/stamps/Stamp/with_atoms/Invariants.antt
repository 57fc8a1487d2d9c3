use Rattle.std.proofs.Common.{◌≡◌, drop}
use Rattle.vtep_rows.specs.Marks.{with_atoms}
use Rattle.vtep_rows.proofs.stamps.Stamp.with_atoms.Given as goal

abbrev pub invariant-atoms : goal.invariant-atoms
invariant-atoms l = with_atoms l.stamp (drop l.atom-index l.atoms) ≡ with_atoms l.fn.self l.atoms
