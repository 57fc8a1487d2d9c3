use Rattle.std.proofs.Common.{◌≡◌, drop}
use Rattle.std.specs.List.{filter_map}
use Rattle.vtep_rows.specs.Row.{first, text_in}
use Rattle.vtep_fabric.proofs.peers.first_text.Given as goal

abbrev pub invariant-atoms : goal.invariant-atoms
invariant-atoms l = first (filter_map text_in (drop l.atom-index l.atoms)) ≡ first (filter_map text_in l.atoms)
