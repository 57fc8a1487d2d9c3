use Rattle.std.proofs.Common.{refl, ap, ◌∙◌}
use Rattle.mac_learning.specs.declared.Learnt.{Learnt}
use Rattle.vtep_schema.specs.declared.Table.TheVariants.{UcastMacsLocal}
use Rattle.forward_program.specs.Follows.{learnt_address}
use Rattle.local_tables.specs.LocalRows.{address_key}
use Rattle.local_tables.specs.Following.{without_row, address_keys}
use Rattle.local_tables.proofs.Versioned.{one_gone}
use Rattle.local_tables.proofs.removing.remove_addresses.Goals as goal

pub gone-preserved : goal.gone-preserved
gone-preserved c = record {
  committed = ap (λ v. v.committed) c.in_ok-remove_row.ensures ∙ c.gone.invariant.committed;
  current = one_gone UcastMacsLocal (λ (e : Learnt). address_key (learnt_address e)) c.gone.database.current c.remove_row.new.database.current c.args.gone.now c.gone.entry-index c.entry-item.result address_keys (λ x xs. refl) c.gone-test.true
      (ap (λ v. v.current) c.in_ok-remove_row.ensures ∙ ap (without_row UcastMacsLocal c.gone.database.current) (c.in_ok-key.ensures ∙ ap (λ (e : Learnt). address_key (learnt_address e)) c.entry-item.is)) ∙ c.gone.invariant.current;
}
