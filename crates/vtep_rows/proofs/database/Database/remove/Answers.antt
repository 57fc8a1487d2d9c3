use Rattle.vtep_rows.specs.Rows.{removed}
use Rattle.vtep_rows.proofs.Restored.{Wrote, wrote_removed, wrote_nothing, shown, if_err}
use Rattle.vtep_rows.proofs.database.Database.remove.Goals as goal
use Rattle.vtep_rows.proofs.database.Database.remove.Goals.{In_ok-remove_row, After-from_residual}

now : (c : In_ok-remove_row) → Wrote c.self.inside.before c.remove_row.new.self c.self.inside.counter c.self.inside.rows c.remove_row.new.rows
now c = wrote_removed c.self.inside.before c.remove_row.new.self c.self.inside.counter c.self.inside.rows c.remove_row.new.rows (c.args.table, c.args.id) c.self.invariant c.in_ok-remove_row.ensures.images c.in_ok-remove_row.ensures.rows

still : (c : After-from_residual) → Wrote c.self.inside.before c.remove_row.new.self c.self.inside.counter c.self.inside.rows c.remove_row.new.rows
still c = wrote_nothing c.self.inside.before c.remove_row.new.self c.self.inside.counter c.self.inside.rows c.remove_row.new.rows c.self.invariant c.in_err-remove_row.ensures.images_err c.in_err-remove_row.ensures.rows_err

pub invariant_of-self : goal.invariant_of-self
invariant_of-self c = (still c).before

pub returns-in_err-remove_row-clause-err : goal.returns-in_err-remove_row-clause-err
returns-in_err-remove_row-clause-err c =
    if_err c.from_residual.result
    (shown c.self.inside.before c.remove_row.new.self c.self.inside.counter c.self.inside.rows c.remove_row.new.rows (λ r. r) c.args.self.now (still c) c.in_err-remove_row.ensures.rows_err c.self.view_is)

pub invariant_of-self-2 : goal.invariant_of-self-2
invariant_of-self-2 c = (now c).before

pub returns-clause-ok : goal.returns-clause-ok
returns-clause-ok c =
    shown c.self.inside.before c.remove_row.new.self c.self.inside.counter c.self.inside.rows c.remove_row.new.rows (λ r. removed r (c.args.table, c.args.id)) c.args.self.now (now c) c.in_ok-remove_row.ensures.rows c.self.view_is
