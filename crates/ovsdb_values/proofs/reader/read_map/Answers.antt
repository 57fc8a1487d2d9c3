use Rattle.std.proofs.Common.{[], sym, ◌∙◌}
use Rattle.ovsdb_values.specs.Notation.{IsOfPair}
use Rattle.ovsdb_values.proofs.Carried.{map_all}
use Rattle.ovsdb_values.proofs.reader.read_map.Goals as goal

pub returns-in-Some-2-clause-of_kinds : goal.returns-in-Some-2-clause-of_kinds
returns-in-Some-2-clause-of_kinds c = (
  map_all (IsOfPair c.args.key c.args.value) (λ p q a b. (a.0, b.1)) [] c.in-Some.read c.in-Some-2.map (sym c.in_ok-map.ensures.value ∙ c.in-Some-2.is) tt (rw c.in-Some.is at c.in_ok-read.ensures.of_kinds),
  rw c.in-Some-2.is at c.in_ok-map.ensures.ordered,
)
