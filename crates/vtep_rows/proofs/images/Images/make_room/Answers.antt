use Rattle.std.proofs.Common.{None, ap, ◌∙◌}
use Rattle.vtep_base.specs.Maps as maps
use Rattle.vtep_base.proofs.Held.{one_given}
use Rattle.vtep_rows.specs.Orders.{key_total, key_exact}
use Rattle.vtep_rows.proofs.images.Images.make_room.Goals as goal

pub returns-clause-ok : goal.returns-clause-ok
returns-clause-ok c =
    one_given key_total key_exact c.self.inside.by_key.entries c.insert.new.self.entries (c.args.table, c.args.id) None c.in_ok-insert.ensures.updates.0
    ∙ ap (λ m. maps.insert m (c.args.table, c.args.id) None) c.self.view_is
