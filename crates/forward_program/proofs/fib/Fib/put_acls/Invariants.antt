use Rattle.std.proofs.Common.{◌≡◌, ℕ, [], ◌∷◌}
use Rattle.std.specs.List.{flat_map}
use Rattle.vtep_schema.specs.declared.Table.TheVariants.{Acl}
use Rattle.vtep_rows.specs.Row.{Contents, put_all}
use Rattle.forward_program.specs.Shown.{acl_entry, with_acls}
use Rattle.forward_program.proofs.RowsThere.{given_by}
use Rattle.forward_program.proofs.fib.Fib.put_acls.Given as goal

abbrev pub invariant-acls : goal.invariant-acls
invariant-acls g l = record {
  put : put_all l.self.entries (flat_map (given_by l.rows Acl (λ (e : ℕ × Contents). acl_entry l.rows e ∷ [])) l.id-iterator) ≡ with_acls l.rows l.initial.self.entries;
  same : l.self.broken ≡ l.initial.self.broken;
}
