use Rattle.std.proofs.Common.{sym, ◌∙◌}
use Rattle.vtep_rows.proofs.KeyedLaws.{too_few}
use Rattle.vtep_rows.proofs.keyed.holds_in.Goals as goal

pub returns-in_default : goal.returns-in_default
returns-in_default c = sym (too_few c.columns.column-index c.args.columns.now c.columns.rest.now c.args.row.now c.columns-test.true c.in_default.ensures.cases) ∙ c.columns.invariant
