use Rattle.std.proofs.Common.{[], sym, ◌∙◌}
use Rattle.ovsdb_values.specs.Notation.{IsOfKind}
use Rattle.ovsdb_values.proofs.Carried.{set_all}
use Rattle.ovsdb_values.proofs.reader.read_set.Goals as goal

pub returns-in-Some-2-clause-of_kind : goal.returns-in-Some-2-clause-of_kind
returns-in-Some-2-clause-of_kind c = (
  set_all (IsOfKind c.args.kind) [] c.in-Some.atoms c.in-Some-2.set (sym c.in_ok-set.ensures.value ∙ c.in-Some-2.is) tt (rw c.in-Some.is at c.in_ok-atoms.ensures.of_kind),
  rw c.in-Some-2.is at c.in_ok-set.ensures.ordered,
)
