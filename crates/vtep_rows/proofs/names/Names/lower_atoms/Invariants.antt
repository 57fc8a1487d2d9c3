use Rattle.std.proofs.Common.{◌≡◌, drop}
use Rattle.std.specs.List.{filter_map}
use Rattle.vtep_rows.specs.Row.{reference}
use Rattle.vtep_rows.specs.Names.{lowered_all}
use Rattle.vtep_rows.proofs.names.Names.lower_atoms.Given as goal

abbrev pub invariant-atoms : goal.invariant-atoms
invariant-atoms l = lowered_all l.self l.of (filter_map (reference l.domain) (drop l.atom-index l.atoms)) ≡ lowered_all l.initial.self l.of (filter_map (reference l.domain) l.atoms)
