use Rattle.std.proofs.Common.{◌≡◌, drop}
use Rattle.vtep_schema.specs.declared.Table.TheVariants.{UcastMacsLocal}
use Rattle.local_tables.specs.Following.{without_rows, address_keys}
use Rattle.local_tables.proofs.removing.remove_addresses.Given as goal

abbrev pub invariant-gone : goal.invariant-gone
invariant-gone l = record {
  committed : l.database.committed ≡ l.initial.database.committed;
  current : without_rows UcastMacsLocal l.database.current (address_keys (drop l.entry-index l.gone)) ≡ without_rows UcastMacsLocal l.initial.database.current (address_keys l.gone);
}
