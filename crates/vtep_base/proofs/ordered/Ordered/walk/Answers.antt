use Rattle.std.proofs.Common.{sym, ap, ◌∙◌}
use Rattle.std.specs.Option.{option_copied}
use Rattle.std.specs.Range.Bound.{bound_map}
use Rattle.std.specs.BTreeMap.Range.{entries_between}
use Rattle.std.specs.declared.ops.Bound.TheVariants.{Unbounded}
use Rattle.vtep_base.specs.Maps as maps
use Rattle.vtep_base.proofs.Held.{from_first, from_key}
use Rattle.vtep_base.proofs.ordered.Ordered.walk.Goals as goal
use Rattle.vtep_base.proofs.ordered.Ordered.walk.Goals.{in-Some, in-None}

pub returns-clause-rest : goal.returns-clause-rest
returns-clause-rest g c =
    c.range.ensures.between tt
    ∙ elim c.match-from.branch [
      | in-Some w ↦ ap (λ b. entries_between g.K.Ord.cmp (bound_map (λ x. x.now) b) Unbounded c.self.inside.tree.entries) w.first-is
          ∙ from_key g.met.K.Ord.total w.in-Some.key.now c.self.inside.tree.entries c.self.invariant
          ∙ ap (λ from. maps.not_below g.K.Ord.cmp (option_copied from) (maps.map_by g.K.Ord.cmp c.self.inside.tree.entries)) (sym w.in-Some.is)
      | in-None w ↦ ap (λ b. entries_between g.K.Ord.cmp (bound_map (λ x. x.now) b) Unbounded c.self.inside.tree.entries) w.first-is
          ∙ from_first g.met.K.Ord.total c.self.inside.tree.entries c.self.invariant
          ∙ ap (λ from. maps.not_below g.K.Ord.cmp (option_copied from) (maps.map_by g.K.Ord.cmp c.self.inside.tree.entries)) (sym w.in-None.is)
    ]
    ∙ ap (λ es. maps.not_below g.K.Ord.cmp (option_copied c.args.from) (maps.map_by g.K.Ord.cmp es)) c.self.view_is
