use Rattle.std.proofs.Common.{nat_eq, arith, List, map, sym, ◌∙◌, subst}
use Rattle.std.specs.List.{IsDistinct}
use Rattle.acl_rules.specs.declared.entry.Entry.{Entry}
use Rattle.forward_program.proofs.AclEntries.{named_once, few_rules}
use Rattle.forward_program.proofs.acls.rules.Goals as goal

pub of-requires : goal.of-requires
of-requires c = record {
  distinct = subst (λ (es : List Entry). IsDistinct nat_eq (map (λ (e : Entry). e.id) es)) (sym (c.as_slice.ensures.value ∙ c.in_ok-entries.ensures.items)) (named_once c.args.rows.now c.entry_atoms.result.now c.entry_atoms.ensures.ordered);
}

pub new-requires : goal.new-requires
new-requires c = few_rules c.args.row.now c.entry_atoms.result.now _ c.in_ok-rules.rules c.table.ensures.row c.entry_atoms.ensures.atoms (omega (arith, c.as_slice.ensures.len, c.in_ok-entries.ensures.few)) c.in_ok-rules.ensures.permutation
