use Rattle.std.proofs.Common.{◌≡◌, ◌++◌}
use Rattle.local_tables.specs.Following.{unbound}
use Rattle.local_tables.proofs.leaving.add_unbound.Given as goal

abbrev pub invariant-entries : goal.invariant-entries
invariant-entries l = l.gone ++ unbound l.rows l.entry-iterator ≡ l.initial.gone ++ unbound l.rows l.learned.entries
