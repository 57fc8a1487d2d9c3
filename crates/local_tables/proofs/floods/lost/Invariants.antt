use Rattle.std.proofs.Common.{◌≡◌, ◌++◌, drop}
use Rattle.local_tables.specs.Following.{lost}
use Rattle.local_tables.proofs.floods.lost.Given as goal

abbrev pub invariant-touched : goal.invariant-touched
invariant-touched l = l.switches ++ lost l.rows (drop l.switch-index l.touched) ≡ lost l.rows l.touched
