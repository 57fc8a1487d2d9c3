use Rattle.std.proofs.Common.{◌≡◌, ◌+◌, drop}
use Rattle.vtep_base.specs.Maps as maps
use Rattle.transact_profile.specs.Names.{names_from}
use Rattle.transact_profile.proofs.running.names_of.Given as goal

abbrev pub invariant-names : goal.invariant-names
invariant-names l = (l.number ≡ l.rows.counter + 1 + l.name-index) × (names_from l.rows.made l.number l.all (drop l.name-index l.names) ≡ names_from l.rows.made (l.rows.counter + 1) maps.empty l.names)
