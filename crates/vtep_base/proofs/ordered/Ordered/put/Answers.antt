use Rattle.std.proofs.Common.{sym, ap, ◌∙◌}
use Rattle.vtep_base.specs.Maps as maps
use Rattle.vtep_base.proofs.Held.{get-held, inserted}
use Rattle.vtep_base.proofs.ordered.Ordered.put.Goals as goal

pub returns-clause-before : goal.returns-clause-before
returns-clause-before g c =
    c.in_ok-insert.ensures.old ∙ sym (get-held g.met.K.Ord.total c.self.inside.tree.entries c.args.key)
    ∙ ap (λ es. maps.get (maps.map_by g.K.Ord.cmp es) c.args.key) c.self.view_is

pub returns-clause-ok : goal.returns-clause-ok
returns-clause-ok g c =
    inserted g.met.K.Ord.total c.self.inside.tree.entries c.insert.new.self.entries c.args.key c.args.value c.self.invariant c.in_ok-insert.ensures.ordered c.in_ok-insert.ensures.entries
    ∙ ap (λ es. maps.insert (maps.map_by g.K.Ord.cmp es) c.args.key c.args.value) c.self.view_is
