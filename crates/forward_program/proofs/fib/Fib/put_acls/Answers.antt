use Rattle.std.proofs.Common.{ℕ, [], ◌∷◌, refl, ap, ◌∙◌}
use Rattle.vtep_schema.specs.declared.Table.TheVariants.{Acl}
use Rattle.vtep_rows.specs.Row.{Contents, put_all}
use Rattle.vtep_rows.specs.Rows.{rows_of}
use Rattle.forward_program.specs.Shown.{acl_entry}
use Rattle.forward_program.proofs.RowsThere.{all_given, one_more, one_each, rest_is}
use Rattle.forward_program.proofs.fib.Fib.put_acls.Goals as goal

pub acls-init : goal.acls-init
acls-init g c = record {
  put = ap (put_all c.args.self.now.entries)
      (all_given c.args.rows.now Acl (λ (e : ℕ × Contents). acl_entry c.args.rows.now e ∷ []) _ _ c.into_iter-id-iterator.ensures.into_iter_gives c.ids-id-items.ensures ∙ one_each (acl_entry c.args.rows.now) (rows_of Acl c.args.rows.now));
  same = refl;
}

pub acls-preserved-in-Continue-1 : goal.acls-preserved-in-Continue-1
acls-preserved-in-Continue-1 g c = record {
  put = one_more c.args.rows.now Acl (λ (e : ℕ × Contents). acl_entry c.args.rows.now e ∷ []) c.acls.self.entries _ _ _ c.next.new.self c.acls.id-iterator (rest_is _ _ _ c.in-Some.is c.next.ensures.steps) c.in-Some-get.ensures.value c.in_ok-put_acl.ensures.ok
      ∙ c.acls.invariant.put;
  same = c.put_acl.ensures.same ∙ c.acls.invariant.same;
}
