use Rattle.std.proofs.Common.{sym, ap, ◌∙◌}
use Rattle.vtep_base.specs.Maps as maps
use Rattle.vtep_rows.specs.Row.{put_all}
use Rattle.vtep_rows.proofs.indexed.Indexed.copy.Goals as goal

pub rows-preserved-in_ok-put : goal.rows-preserved-in_ok-put
rows-preserved-in_ok-put c =
    ap (λ m. put_all m c.next.new.self) (c.in_ok-put.ensures.ok ∙ ap (maps.insert c.rows.copy c.in-Some.key.now) c.in_ok-copy.ensures)
    ∙ ap (put_all c.rows.copy) (sym c.in-Some.ensures.steps) ∙ c.rows.invariant

pub rows-preserved : goal.rows-preserved
rows-preserved c =
    ap (λ m. put_all m c.next.new.self) (c.in_ok-put.ensures.ok ∙ ap (maps.insert c.rows.copy c.in-Some.key.now) c.in_ok-copy.ensures)
    ∙ ap (put_all c.rows.copy) (sym c.in-Some.ensures.steps) ∙ c.rows.invariant
