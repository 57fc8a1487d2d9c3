use Rattle.std.proofs.Common.{◌≡◌, ◌++◌}
use Rattle.std.specs.List.{flat_map}
use Rattle.vtep_base.specs.Maps as maps
use Rattle.vtep_gateway.specs.Show.{line_cmp}
use Rattle.vtep_gateway.proofs.show.put_lines.Given as goal

abbrev pub invariant-lines : goal.invariant-lines
invariant-lines l = l.out ++ flat_map (λ e. e.1) l.line-iterator ≡ l.fn.out ++ flat_map (λ e. e.1) (maps.map_by line_cmp l.lines).list
