use Rattle.std.proofs.Common.{◌≡◌, [], map, drop}
use Rattle.std.specs.List.{AllByRecursion}
use Rattle.serde_json.specs.View.{view}
use Rattle.ovsdb_values.specs.Notation.{each_from, entry_of, IsOfPair}
use Rattle.ovsdb_values.proofs.reader.read_entries.Given as goal

abbrev pub invariant-values : goal.invariant-values
invariant-values l =
    (each_from (entry_of l.key l.value) l.pairs (map view (drop l.entry-index l.values)) ≡ each_from (entry_of l.key l.value) [] (map view l.values))
    × AllByRecursion (IsOfPair l.key l.value) l.pairs
