use Rattle.std.proofs.Common.{◌≡◌, [], map, drop}
use Rattle.std.specs.List.{AllByRecursion}
use Rattle.serde_json.specs.View.{view}
use Rattle.ovsdb_values.specs.Notation.{each_from, atom_of, IsOfKind}
use Rattle.ovsdb_values.proofs.reader.read_each.Given as goal

abbrev pub invariant-values : goal.invariant-values
invariant-values l =
    (each_from (atom_of l.kind) l.atoms (map view (drop l.value-index l.values)) ≡ each_from (atom_of l.kind) [] (map view l.values))
    × AllByRecursion (IsOfKind l.kind) l.atoms
