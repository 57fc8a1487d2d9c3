use Rattle.std.proofs.Common.{◌∙◌}
use Rattle.vtep_base.specs.Maps as maps
use Rattle.vtep_gateway.specs.Show.{line_cmp}
use Rattle.vtep_gateway.proofs.show.put_line.Goals as goal

pub returns : goal.returns
returns c = c.in_ok-put.ensures.ok ∙ (λ i. maps.insert (maps.map_by line_cmp c.args.lines.now) (c.in_ok-key.ensures i) (c.in_ok-line.ensures i))
