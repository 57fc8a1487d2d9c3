use Rattle.std.proofs.Common.{sym, ap, ◌∙◌}
use Rattle.vtep_base.specs.Maps as maps
use Rattle.vtep_base.proofs.Held.{get-held, one_given}
use Rattle.vtep_rows.specs.Orders.{key_total, key_exact}
use Rattle.vtep_rows.proofs.Restored.{sure, not_there}
use Rattle.vtep_rows.proofs.images.Images.fill.Goals as goal

pub returns : goal.returns
returns c =
    one_given key_total key_exact c.self.inside.by_key.entries c.insert.new.self.entries (c.args.table, c.args.id) c.args.image
    (sure c.insert.result c.insert.ensures.updates c.insert.ensures.absent (λ absent.
    not_there (maps.get c.args.self.now (c.args.table, c.args.id)) c.requires
    (ap (λ m. maps.get m (c.args.table, c.args.id)) (sym c.self.view_is) ∙ get-held key_total c.self.inside.by_key.entries (c.args.table, c.args.id) ∙ absent))).0
    ∙ ap (λ m. maps.insert m (c.args.table, c.args.id) c.args.image) c.self.view_is
