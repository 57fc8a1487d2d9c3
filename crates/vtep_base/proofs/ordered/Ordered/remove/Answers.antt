use Rattle.std.proofs.Common.{sym, ap, ◌∙◌}
use Rattle.vtep_base.specs.Maps as maps
use Rattle.vtep_base.proofs.Held.{get-held, removed}
use Rattle.vtep_base.proofs.ordered.Ordered.remove.Goals as goal

pub returns-clause-before : goal.returns-clause-before
returns-clause-before g c =
    c.remove.ensures.value ∙ sym (get-held g.met.K.Ord.total c.self.inside.tree.entries c.args.key.now)
    ∙ ap (λ es. maps.get (maps.map_by g.K.Ord.cmp es) c.args.key.now) c.self.view_is

pub returns-clause-removed : goal.returns-clause-removed
returns-clause-removed g c =
    removed g.met.K.Ord.total c.self.inside.tree.entries c.remove.new.self.entries c.args.key.now c.self.invariant c.remove.ensures.ordered c.remove.ensures.entries
    ∙ ap (λ es. maps.remove (maps.map_by g.K.Ord.cmp es) c.args.key.now) c.self.view_is
