use Rattle.std.proofs.Common.{◌≡◌, map, take}
use Rattle.serde_json.specs.Data.{string}
use Rattle.serde_json.specs.View.{view}
use Rattle.vtep_schema.proofs.published.words_json.Given as goal

abbrev pub invariant-texts : goal.invariant-texts
invariant-texts l = map view l.items.items ≡ map string (map (λ w. w.now) (take l.text-index l.texts))
