use Rattle.vtep_rows.specs.Rows.{inserted}
use Rattle.vtep_rows.proofs.Restored.{Wrote, wrote_inserted, wrote_nothing, shown, if_err}
use Rattle.vtep_rows.proofs.database.Database.insert.Goals as goal
use Rattle.vtep_rows.proofs.database.Database.insert.Goals.{In_ok-id, After-from_residual}

now : (c : In_ok-id) → Wrote c.self.inside.before c.insert_row.new.self c.self.inside.counter c.self.inside.rows c.insert_row.new.rows
now c = wrote_inserted c.self.inside.before c.insert_row.new.self c.self.inside.counter c.self.inside.rows c.insert_row.new.rows c.args.table c.args.row c.self.invariant c.in_ok-id.ensures.images c.requires c.in_ok-id.ensures.rows

still : (c : After-from_residual) → Wrote c.self.inside.before c.insert_row.new.self c.self.inside.counter c.self.inside.rows c.insert_row.new.rows
still c = wrote_nothing c.self.inside.before c.insert_row.new.self c.self.inside.counter c.self.inside.rows c.insert_row.new.rows c.self.invariant c.in_err-id.ensures.images_err c.in_err-id.ensures.rows_err

pub invariant_of-self : goal.invariant_of-self
invariant_of-self c = (still c).before

pub returns-in_err-id-clause-err : goal.returns-in_err-id-clause-err
returns-in_err-id-clause-err c =
    if_err c.from_residual.result
    (shown c.self.inside.before c.insert_row.new.self c.self.inside.counter c.self.inside.rows c.insert_row.new.rows (λ r. r) c.args.self.now (still c) c.in_err-id.ensures.rows_err c.self.view_is)

pub invariant_of-self-2 : goal.invariant_of-self-2
invariant_of-self-2 c = (now c).before

pub returns-clause-ok : goal.returns-clause-ok
returns-clause-ok c =
    shown c.self.inside.before c.insert_row.new.self c.self.inside.counter c.self.inside.rows c.insert_row.new.rows (λ r. inserted r c.args.row) c.args.self.now (now c) c.in_ok-id.ensures.rows c.self.view_is
