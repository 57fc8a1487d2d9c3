use Rattle.vtep_rows.proofs.TwinLaws.{either_key, by_first, by_second}
use Rattle.vtep_rows.proofs.rows.Rows.has_twin.Goals as goal

pub returns-then-shares_key : goal.returns-then-shares_key
returns-then-shares_key c =
    by_first _ _ _ _ c.shares_key.ensures c.if-shares_key.true (either_key c.args.self.now c.args.table c.args.id c.args.row.now)

pub returns-else-shares_key : goal.returns-else-shares_key
returns-else-shares_key c =
    by_second _ _ _ _ _ c.shares_key.ensures c.if-shares_key.false c.shares_key-else-shares_key.ensures (either_key c.args.self.now c.args.table c.args.id c.args.row.now)
