use Rattle.std.proofs.Common.{◌≡◌}
use Rattle.std.specs.List.{flat_map}
use Rattle.vtep_schema.specs.declared.Table.TheVariants.{Acl}
use Rattle.vtep_rows.specs.Row.{put_all}
use Rattle.forward_program.specs.Follows.{touched_entry, touched_entries}
use Rattle.forward_program.proofs.RowsThere.{given_by}
use Rattle.forward_program.proofs.fib.Fib.put_touched.Given as goal

abbrev pub invariant-acls : goal.invariant-acls
invariant-acls g l = record {
  put : put_all l.self.entries (flat_map (given_by l.rows Acl (touched_entry l.rows l.change)) l.id-iterator) ≡ put_all l.initial.self.entries (touched_entries l.rows l.change);
  same : l.self.broken ≡ l.initial.self.broken;
}
