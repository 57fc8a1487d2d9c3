use Rattle.std.proofs.Common.{◌≡◌, IfOk, map, ap, subst, ◌∙◌}
use Rattle.std.specs.List.{filter}
use Rattle.vtep_schema.specs.Tables.{same_table}
use Rattle.vtep_rows.specs.Changes.{changes}
use Rattle.vtep_rows.proofs.Touched.{touched_changes}
use Rattle.vtep_rows.proofs.database.Database.differing.Goals as goal

pub returns : goal.returns
returns c =
    subst (λ wanted. IfOk c.differing.result (λ ids. ids ≡ wanted))
    (ap (λ found. map (λ x. x.id) (filter (λ x. same_table x.table c.args.table) found))
    (touched_changes c.self.inside.before c.self.inside.counter c.self.inside.rows ∙ ap (λ v. changes v.committed v.current) c.self.view_is))
    c.differing.ensures
