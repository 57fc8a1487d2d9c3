use Rattle.std.proofs.Common.{◌≡◌, map, take}
use Rattle.serde_json.specs.View.{view}
use Rattle.ovsdb_values.specs.Notation.{atom_json}
use Rattle.ovsdb_values.proofs.writer.atoms_json.Given as goal

abbrev pub invariant-atoms : goal.invariant-atoms
invariant-atoms l = map view l.items.items ≡ map atom_json (take l.atom-index l.atoms)
