use Rattle.std.proofs.Common.{ap, ◌∙◌}
use Rattle.vtep_base.specs.Maps as maps
use Rattle.vtep_base.proofs.Held.{one_gone}
use Rattle.vtep_rows.specs.Orders.{key_total, key_exact}
use Rattle.vtep_rows.proofs.images.Images.forget.Goals as goal

pub returns : goal.returns
returns c =
    one_gone key_total key_exact c.self.inside.by_key.entries c.remove.new.self.entries (c.args.table, c.args.id) c.remove.ensures.updates.0
    ∙ ap (λ m. maps.remove m (c.args.table, c.args.id)) c.self.view_is
