use Rattle.std.proofs.Common.{◌≡◌, drop}
use Rattle.vtep_base.specs.Maps as maps
use Rattle.vtep_gateway.specs.Show.{line_cmp, with_lines, lines_of}
use Rattle.vtep_gateway.proofs.show.lines_of.Given as goal

abbrev pub invariant-facts : goal.invariant-facts
invariant-facts l = with_lines l.rows (maps.map_by line_cmp l.lines) (drop l.fact-index l.facts) ≡ lines_of l.rows l.facts
