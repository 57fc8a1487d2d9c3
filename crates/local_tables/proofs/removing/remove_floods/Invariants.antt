use Rattle.std.proofs.Common.{◌≡◌, drop}
use Rattle.vtep_schema.specs.declared.Table.TheVariants.{McastMacsLocal}
use Rattle.local_tables.specs.Following.{without_rows, flood_keys}
use Rattle.local_tables.proofs.removing.remove_floods.Given as goal

abbrev pub invariant-lost : goal.invariant-lost
invariant-lost l = record {
  committed : l.database.committed ≡ l.initial.database.committed;
  current : without_rows McastMacsLocal l.database.current (flood_keys (drop l.switch-index l.lost)) ≡ without_rows McastMacsLocal l.initial.database.current (flood_keys l.lost);
}
