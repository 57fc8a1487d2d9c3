use Rattle.std.proofs.Common.{refl, ap, ◌∙◌}
use Rattle.vtep_schema.specs.declared.Table.TheVariants.{McastMacsLocal}
use Rattle.local_tables.specs.LocalRows.{flood_key}
use Rattle.local_tables.specs.Following.{without_row, flood_keys}
use Rattle.local_tables.proofs.Versioned.{one_gone}
use Rattle.local_tables.proofs.removing.remove_floods.Goals as goal

pub lost-preserved : goal.lost-preserved
lost-preserved c = record {
  committed = ap (λ v. v.committed) c.in_ok-remove_row.ensures ∙ c.lost.invariant.committed;
  current = one_gone McastMacsLocal flood_key c.lost.database.current c.remove_row.new.database.current c.args.lost.now c.lost.switch-index 0 flood_keys (λ x xs. refl) c.lost-test.true
      (ap (λ v. v.current) c.in_ok-remove_row.ensures ∙ ap (without_row McastMacsLocal c.lost.database.current) c.in_ok-key.ensures) ∙ c.lost.invariant.current;
}
