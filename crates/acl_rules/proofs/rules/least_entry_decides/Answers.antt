use Rattle.std.proofs.lemmas.List.Sorted.{IsPermutation-sym}
use Rattle.acl_rules.specs.Permits.{in_order}
use Rattle.acl_rules.proofs.LeastDecides.{permits_least, Permits-permutation}
use Rattle.acl_rules.proofs.Placed.{ordered-in_order, in_order_moves}
use Rattle.acl_rules.proofs.rules.least_entry_decides.Goals as goal

pub returns : goal.returns
returns c = λ entries headers direction distinct.
    let least = permits_least headers direction (in_order entries) (ordered-in_order entries distinct) in (
      λ p. Permits-permutation headers direction (in_order entries) entries (IsPermutation-sym _ _ (in_order_moves entries)) (least.0 p),
      λ p. least.1 (Permits-permutation headers direction entries (in_order entries) (in_order_moves entries) p),
    )
