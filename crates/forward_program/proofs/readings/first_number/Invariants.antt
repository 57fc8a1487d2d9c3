use Rattle.std.proofs.Common.{◌≡◌, drop}
use Rattle.std.specs.List.{filter_map}
use Rattle.vtep_rows.specs.Row.{first, nat_in}
use Rattle.forward_program.proofs.readings.first_number.Given as goal

abbrev pub invariant-atoms : goal.invariant-atoms
invariant-atoms l = first (filter_map nat_in (drop l.atom-index l.atoms)) ≡ first (filter_map nat_in l.atoms)
