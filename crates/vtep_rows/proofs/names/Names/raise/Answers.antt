use Rattle.std.proofs.Common.{◌+◌, ◌∙◌}
use Rattle.vtep_base.specs.Maps as maps
use Rattle.vtep_base.proofs.Held.{one_given}
use Rattle.vtep_rows.specs.NameOrders.{naming_total, naming_exact}
use Rattle.vtep_rows.proofs.names.Names.raise.Goals as goal

pub returns-clause-ok : goal.returns-clause-ok
returns-clause-ok c =
    one_given naming_total naming_exact c.self.inside.by_key.entries c.insert.new.self.entries (c.args.table, c.args.id, c.args.of) (c.of-n.result + 1) c.in_ok-insert.ensures.updates.0
    ∙ (λ i. maps.insert (c.self.view_is i) (c.args.table, c.args.id, c.args.of) (c.of-n.ensures i + 1))
