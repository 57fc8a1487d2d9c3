use Rattle.vtep_rows.proofs.IndexLaws.{indexed_removed}
use Rattle.vtep_rows.proofs.indexed.Indexed.remove.Goals as goal

pub invariant_of-self : goal.invariant_of-self
invariant_of-self c =
    indexed_removed c.self.inside.indexes c.take_old.new.self c.self.inside.store c.remove-gone.new.self (c.args.table, c.args.id) c.remove-gone.result c.self.invariant c.remove-gone.ensures.removed c.remove-gone.ensures.before
    c.take_old.ensures
