use Rattle.std.proofs.Common.{ap, ◌∙◌}
use Rattle.vtep_rows.specs.Rows.{row_at}
use Rattle.vtep_rows.proofs.Restored.{was_kept, was_still}
use Rattle.vtep_rows.proofs.database.Database.was.Goals as goal

pub returns-in-Some : goal.returns-in-Some
returns-in-Some c =
    was_kept c.self.inside.before c.self.inside.counter c.self.inside.rows (c.args.table, c.args.id) c.in-Some.image.now _ c.in-Some.ensures c.as_ref.ensures.value
    ∙ ap (λ v. row_at v.committed (c.args.table, c.args.id)) c.self.view_is

pub returns-in-None : goal.returns-in-None
returns-in-None c =
    was_still c.self.inside.before c.self.inside.counter c.self.inside.rows (c.args.table, c.args.id) _ c.in-None.ensures c.get-in-None.ensures.value
    ∙ ap (λ v. row_at v.committed (c.args.table, c.args.id)) c.self.view_is
