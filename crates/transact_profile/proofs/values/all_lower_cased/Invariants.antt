use Rattle.std.proofs.Common.{◌≡◌, ◌++◌, map}
use Rattle.std.specs.Vec.Iter.{into_iter_items}
use Rattle.transact_profile.specs.Values.{lower_cased}
use Rattle.transact_profile.proofs.values.all_lower_cased.Given as goal

abbrev pub invariant-atoms : goal.invariant-atoms
invariant-atoms l = l.all ++ map (lower_cased l.domain) (into_iter_items l.atom-iterator) ≡ map (lower_cased l.domain) l.fn.atoms
