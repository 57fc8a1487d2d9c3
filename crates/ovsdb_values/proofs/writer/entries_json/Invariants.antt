use Rattle.std.proofs.Common.{◌≡◌, map, take}
use Rattle.serde_json.specs.View.{view}
use Rattle.ovsdb_values.specs.Notation.{entry_json}
use Rattle.ovsdb_values.proofs.writer.entries_json.Given as goal

abbrev pub invariant-pairs : goal.invariant-pairs
invariant-pairs l = map view l.items.items ≡ map entry_json (take l.pair-index l.pairs)
