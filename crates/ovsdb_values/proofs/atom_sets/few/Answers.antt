use Rattle.std.proofs.Common.{sym, subst, ◌∙◌}
use Rattle.std.specs.List.Sorted.{IsStrictlySortedBy}
use Rattle.ovsdb_values.specs.Atoms.{atom_cmp}
use Rattle.ovsdb_values.proofs.Few.{few_ordered, few_once, few_merged}
use Rattle.ovsdb_values.proofs.atom_sets.few.Goals as goal

pub invariant_of-result : goal.invariant_of-result
invariant_of-result c =
    subst (IsStrictlySortedBy atom_cmp) (sym (c.shrink_to_fit.ensures.items ∙ c.into_vec-atoms.ensures)) (few_ordered c.args.atoms c.requires)

pub returns-clause-ordered : goal.returns-clause-ordered
returns-clause-ordered c =
    subst (IsStrictlySortedBy atom_cmp) (sym (c.shrink_to_fit.ensures.items ∙ c.into_vec-atoms.ensures)) (few_ordered c.args.atoms c.requires)

pub returns-clause-once : goal.returns-clause-once
returns-clause-once c = few_once c.args.atoms c.requires

pub returns-clause-merged : goal.returns-clause-merged
returns-clause-merged c = few_merged c.args.atoms c.requires
