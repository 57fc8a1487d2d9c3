use Rattle.vtep_rows.proofs.Kept.{one_added}
use Rattle.vtep_rows.proofs.rows.Rows.add.Goals as goal

pub invariant_of-self-2 : goal.invariant_of-self-2
invariant_of-self-2 c =
    (one_added (record { made = c.self.inside.made; counter = c.self.inside.counter; rows = c.self.inside.rows }) c.args.self.now c.put.new.self c.table.result c.row_id-id.result c.args.row c.self.view_is
    c.self.invariant c.requires c.table.ensures.table c.table.ensures.row c.row_id-id.ensures c.in_ok-put.ensures.ok).rows

pub returns-clause-ok : goal.returns-clause-ok
returns-clause-ok c =
    (one_added (record { made = c.self.inside.made; counter = c.self.inside.counter; rows = c.self.inside.rows }) c.args.self.now c.put.new.self c.table.result c.row_id-id.result c.args.row c.self.view_is
    c.self.invariant c.requires c.table.ensures.table c.table.ensures.row c.row_id-id.ensures c.in_ok-put.ensures.ok).is

pub returns-clause-fresh : goal.returns-clause-fresh
returns-clause-fresh c =
    (one_added (record { made = c.self.inside.made; counter = c.self.inside.counter; rows = c.self.inside.rows }) c.args.self.now c.put.new.self c.table.result c.row_id-id.result c.args.row c.self.view_is
    c.self.invariant c.requires c.table.ensures.table c.table.ensures.row c.row_id-id.ensures c.in_ok-put.ensures.ok).fresh
