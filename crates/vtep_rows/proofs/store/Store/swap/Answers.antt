use Rattle.std.proofs.Common.{sym, ap, subst, ◌∙◌}
use Rattle.vtep_base.specs.Maps as maps
use Rattle.vtep_base.proofs.Held.{one_given, get-held}
use Rattle.vtep_rows.specs.Orders.{key_total, key_exact}
use Rattle.vtep_rows.specs.Rows.{IsNumbered}
use Rattle.vtep_rows.proofs.Kept.{numbered_put}
use Rattle.vtep_rows.proofs.TallyLaws.{if_err}
use Rattle.vtep_rows.proofs.store.Store.swap.Goals as goal

pub invariant_of-self-2 : goal.invariant_of-self-2
invariant_of-self-2 c =
    subst IsNumbered (sym (one_given key_total key_exact c.self.inside.by_key.entries c.insert.new.self.entries (c.args.table, c.args.id) c.args.row c.in_ok-insert.ensures.updates.0))
    (numbered_put (maps.of_list c.self.inside.by_key.entries) (c.args.table, c.args.id) c.args.row c.ranges.id.fits c.self.invariant)

pub returns-clause-ok : goal.returns-clause-ok
returns-clause-ok c =
    one_given key_total key_exact c.self.inside.by_key.entries c.insert.new.self.entries (c.args.table, c.args.id) c.args.row c.in_ok-insert.ensures.updates.0
    ∙ ap (λ m. maps.insert m (c.args.table, c.args.id) c.args.row) c.self.view_is

pub returns-clause-before : goal.returns-clause-before
returns-clause-before c =
    c.in_ok-insert.ensures.old ∙ sym (get-held key_total c.self.inside.by_key.entries (c.args.table, c.args.id)) ∙ ap (λ m. maps.get m (c.args.table, c.args.id)) c.self.view_is

pub returns-in_err-insert-clause-absent : goal.returns-in_err-insert-clause-absent
returns-in_err-insert-clause-absent c =
    if_err c.from_residual.result (ap (λ m. maps.get m (c.args.table, c.args.id)) (sym c.self.view_is) ∙ get-held key_total c.self.inside.by_key.entries (c.args.table, c.args.id) ∙ c.in_err-insert.ensures.absent)
