use Rattle.std.proofs.Common.{is_some, ap, ◌∙◌}
use Rattle.vtep_rows.specs.Rows.{row_at, replaced}
use Rattle.vtep_rows.proofs.Restored.{Wrote, wrote_replaced, wrote_nothing, shown, if_err, given_there}
use Rattle.vtep_rows.proofs.database.Database.replace.Goals as goal
use Rattle.vtep_rows.proofs.database.Database.replace.Goals.{In_ok-put_row, After-from_residual}

now : (c : In_ok-put_row) → Wrote c.self.inside.before c.put_row.new.self c.self.inside.counter c.self.inside.rows c.put_row.new.rows
now c = wrote_replaced c.self.inside.before c.put_row.new.self c.self.inside.counter c.self.inside.rows c.put_row.new.rows (c.args.table, c.args.id) c.args.row c.self.invariant c.in_ok-put_row.ensures.images c.in_ok-put_row.ensures.rows

still : (c : After-from_residual) → Wrote c.self.inside.before c.put_row.new.self c.self.inside.counter c.self.inside.rows c.put_row.new.rows
still c = wrote_nothing c.self.inside.before c.put_row.new.self c.self.inside.counter c.self.inside.rows c.put_row.new.rows c.self.invariant c.in_err-put_row.ensures.images_err c.in_err-put_row.ensures.rows_err

pub invariant_of-self : goal.invariant_of-self
invariant_of-self c = (still c).before

pub returns-in_err-put_row-clause-err : goal.returns-in_err-put_row-clause-err
returns-in_err-put_row-clause-err c =
    if_err c.from_residual.result
    (shown c.self.inside.before c.put_row.new.self c.self.inside.counter c.self.inside.rows c.put_row.new.rows (λ r. r) c.args.self.now (still c) c.in_err-put_row.ensures.rows_err c.self.view_is)

pub invariant_of-self-2 : goal.invariant_of-self-2
invariant_of-self-2 c = (now c).before

pub returns-clause-ok : goal.returns-clause-ok
returns-clause-ok c =
    shown c.self.inside.before c.put_row.new.self c.self.inside.counter c.self.inside.rows c.put_row.new.rows (λ r. replaced r (c.args.table, c.args.id) c.args.row) c.args.self.now (now c) c.in_ok-put_row.ensures.rows c.self.view_is

pub put_row-requires-clause-given : goal.put_row-requires-clause-given
put_row-requires-clause-given c =
    given_there c.self.inside.rows (c.args.table, c.args.id) c.counter.ensures.rows (ap (λ v. is_some (row_at v.current (c.args.table, c.args.id))) c.self.view_is ∙ c.requires.there)
