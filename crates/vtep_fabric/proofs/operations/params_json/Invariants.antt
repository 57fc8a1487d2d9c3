use Rattle.std.proofs.Common.{◌≡◌, ◌∷◌, ◌++◌, map}
use Rattle.std.specs.Prelude.{codes}
use Rattle.std.specs.Vec.Iter.{into_iter_items}
use Rattle.serde_json.specs.Data.{string}
use Rattle.serde_json.specs.View.{view}
use Rattle.vtep_fabric.proofs.operations.params_json.Given as goal

abbrev pub invariant-operations : goal.invariant-operations
invariant-operations l =
    map view l.params.items ++ map view (into_iter_items l.operation-iterator) ≡ string (codes "hardware_vtep") ∷ map view l.fn.operations.items
