use Rattle.std.proofs.Common.{◌≡◌, IfOk, ap, subst, ◌∙◌}
use Rattle.std.specs.List.{filter_map}
use Rattle.vtep_rows.specs.Changes.{changes}
use Rattle.vtep_rows.specs.Database.{changed_at}
use Rattle.vtep_rows.proofs.Touched.{touched_changes}
use Rattle.vtep_rows.proofs.database.Database.commit.Goals as goal

pub returns-clause-change : goal.returns-clause-change
returns-clause-change c =
    subst (λ wanted. IfOk c.into_change.result (λ change. change ≡ wanted))
    (ap (λ b. filter_map (changed_at c.self.inside.rows) b.list) c.replace-images.ensures.value
    ∙ touched_changes c.self.inside.before c.self.inside.counter c.self.inside.rows ∙ ap (λ v. changes v.committed v.current) c.self.view_is)
    c.into_change.ensures
