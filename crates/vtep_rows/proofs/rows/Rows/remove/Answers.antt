use Rattle.std.proofs.Common.{sym, ap, subst, ◌∙◌}
use Rattle.vtep_rows.specs.Rows.{IsRows, row_at, removed}
use Rattle.vtep_rows.proofs.Kept.{still_removed, same_rows}
use Rattle.vtep_rows.proofs.rows.Rows.remove.Goals as goal

pub invariant_of-self : goal.invariant_of-self
invariant_of-self c =
    subst IsRows (sym (same_rows c.self.inside.made c.self.inside.counter _ _ c.remove.ensures.removed))
    (still_removed (record { made = c.self.inside.made; counter = c.self.inside.counter; rows = c.self.inside.rows }) (c.args.table, c.args.id) c.self.invariant)

pub returns-clause-removed : goal.returns-clause-removed
returns-clause-removed c = same_rows c.self.inside.made c.self.inside.counter _ _ c.remove.ensures.removed ∙ ap (λ r. removed r (c.args.table, c.args.id)) c.self.view_is

pub returns-clause-before : goal.returns-clause-before
returns-clause-before c = c.remove.ensures.before ∙ ap (λ r. row_at r (c.args.table, c.args.id)) c.self.view_is
