use Rattle.std.proofs.Common.{◌+◌, ◌∷◌, drop, sym, ap, ◌∙◌}
use Rattle.std.proofs.lemmas.List.{at_drop_more}
use Rattle.vtep_base.specs.Maps as maps
use Rattle.vtep_gateway.specs.Show.{Lines, line_cmp, with_lines}
use Rattle.vtep_gateway.proofs.show.lines_of.Goals as goal

pub facts-preserved : goal.facts-preserved
facts-preserved c =
    let rows = c.args.rows.now in
    let facts = c.args.facts.now in
    let before : Lines = maps.map_by line_cmp c.facts.lines in
    let rest = drop (c.facts.fact-index + 1) facts in
    ap (λ lines. with_lines rows lines rest) c.in_ok-put_line.ensures
    ∙ ap (λ f. with_lines rows before (f ∷ rest)) c.fact-item.is
    ∙ sym (at_drop_more (with_lines rows before) facts c.facts.fact-index c.fact-item.result c.facts-test.true)
    ∙ c.facts.invariant
