use Rattle.std.proofs.Common.{◌&&◌, ◌∙◌}
use Rattle.std.specs.Cmp.Lexicographic.{pointwise}
use Rattle.vtep_base.proofs.Held.{shown}
use Rattle.vtep_base.proofs.ordered.OrderedPartialEq.eq.Goals as goal

pub returns : goal.returns
returns g c =
    c.eq.ensures
    ∙ (λ i. pointwise (λ e f. g.K.PartialEq.eq e.0 f.0 && g.V.PartialEq.eq e.1 f.1)
    (shown g.met.K.Ord.total c.self.inside.tree.entries c.args.self.now c.self.invariant c.self.view_is i)
    (shown g.met.K.Ord.total c.other.inside.tree.entries c.args.other.now c.other.invariant c.other.view_is i))
