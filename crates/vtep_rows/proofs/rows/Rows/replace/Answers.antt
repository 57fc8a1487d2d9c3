use Rattle.std.proofs.Common.{subst}
use Rattle.vtep_rows.specs.Rows.{IsRows}
use Rattle.vtep_rows.proofs.Kept.{given_there, one_placed}
use Rattle.vtep_rows.proofs.rows.Rows.replace.Goals as goal

pub invariant_of-self-2 : goal.invariant_of-self-2
invariant_of-self-2 c =
    (one_placed (record { made = c.self.inside.made; counter = c.self.inside.counter; rows = c.self.inside.rows }) c.args.self.now c.put.new.self c.table.result (c.args.table, c.args.id) c.args.row c.self.view_is
    c.self.invariant (given_there c.args.self.now (c.args.table, c.args.id) (subst IsRows c.self.view_is c.self.invariant) c.requires.there) c.requires.table c.table.ensures.table c.table.ensures.row c.in_ok-put.ensures.ok).rows

pub returns-clause-ok : goal.returns-clause-ok
returns-clause-ok c =
    (one_placed (record { made = c.self.inside.made; counter = c.self.inside.counter; rows = c.self.inside.rows }) c.args.self.now c.put.new.self c.table.result (c.args.table, c.args.id) c.args.row c.self.view_is
    c.self.invariant (given_there c.args.self.now (c.args.table, c.args.id) (subst IsRows c.self.view_is c.self.invariant) c.requires.there) c.requires.table c.table.ensures.table c.table.ensures.row c.in_ok-put.ensures.ok).is
