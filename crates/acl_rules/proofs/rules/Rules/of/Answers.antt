use Rattle.std.proofs.Common.{◌≡◌, sym, subst, IsPermutation, arith}
use Rattle.std.proofs.lemmas.Grind.{common_steps}
use Rattle.acl_rules.specs.Permits.{in_order, IsOrdered}
use Rattle.acl_rules.proofs.Placed.{ordered-in_order, in_order_moves}
use Rattle.acl_rules.proofs.rules.Rules.of.Goals as goal

pub invariant_of-result : goal.invariant_of-result
invariant_of-result c =
    let placed : c.entries.sorted.items ≡ in_order c.args.entries.now = grind (arith, common_steps) in
    subst IsOrdered (sym placed) (ordered-in_order c.args.entries.now c.requires.distinct)

pub returns-clause-permutation : goal.returns-clause-permutation
returns-clause-permutation c =
    let placed : c.entries.sorted.items ≡ in_order c.args.entries.now = grind (arith, common_steps) in
    subst (IsPermutation c.args.entries.now) (sym placed) (in_order_moves c.args.entries.now)
