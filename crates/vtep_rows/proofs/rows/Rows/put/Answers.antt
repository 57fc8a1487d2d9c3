use Rattle.vtep_rows.proofs.Kept.{one_placed}
use Rattle.vtep_rows.proofs.rows.Rows.put.Goals as goal

pub invariant_of-self-2 : goal.invariant_of-self-2
invariant_of-self-2 c =
    (one_placed (record { made = c.self.inside.made; counter = c.self.inside.counter; rows = c.self.inside.rows }) c.args.self.now c.put.new.self c.table.result (c.args.table, c.args.id) c.args.row c.self.view_is
    c.self.invariant c.requires.given c.requires.table c.table.ensures.table c.table.ensures.row c.in_ok-old.ensures.ok).rows

pub returns-clause-ok : goal.returns-clause-ok
returns-clause-ok c =
    (one_placed (record { made = c.self.inside.made; counter = c.self.inside.counter; rows = c.self.inside.rows }) c.args.self.now c.put.new.self c.table.result (c.args.table, c.args.id) c.args.row c.self.view_is
    c.self.invariant c.requires.given c.requires.table c.table.ensures.table c.table.ensures.row c.in_ok-old.ensures.ok).is
