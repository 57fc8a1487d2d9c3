use Rattle.std.proofs.Common.{◌≡◌, ◌++◌, drop}
use Rattle.local_tables.specs.Following.{gained}
use Rattle.local_tables.proofs.floods.gained.Given as goal

abbrev pub invariant-touched : goal.invariant-touched
invariant-touched l = l.switches ++ gained l.rows (drop l.switch-index l.touched) ≡ gained l.rows l.touched
