use Rattle.std.proofs.Common.{◌≡◌, ◌-◌, sym, ap, ◌∙◌}
use Rattle.vtep_base.specs.Maps as maps
use Rattle.vtep_base.proofs.Held.{one_given, one_gone, get-held}
use Rattle.vtep_rows.specs.Tallies.{count_at}
use Rattle.vtep_rows.specs.Names.{naming_cmp}
use Rattle.vtep_rows.specs.NameOrders.{naming_total, naming_exact}
use Rattle.vtep_rows.proofs.TallyLaws.{lowered_gone, lowered_left, never, sure}
use Rattle.vtep_rows.proofs.names.Names.lower.Goals as goal
use Rattle.vtep_rows.proofs.names.Names.lower.Goals.{After-insert}

pub returns-then-n-le1 : goal.returns-then-n-le1
returns-then-n-le1 c =
    one_gone naming_total naming_exact c.self.inside.by_key.entries c.remove.new.self.entries (c.args.table, c.args.id, c.args.of) c.remove.ensures.updates.0
    ∙ ap (λ m. maps.remove m (c.args.table, c.args.id, c.args.of)) c.self.view_is
    ∙ lowered_gone c.args.self.now (c.args.table, c.args.id, c.args.of) c.of-n.result c.of-n.ensures c.if-n-le1.true

-- a key that is there can be put in
put : (c : After-insert) → maps.of_list {R = naming_cmp} c.insert.new.self.entries ≡ maps.insert (maps.of_list c.self.inside.by_key.entries) (c.args.table, c.args.id, c.args.of) (c.of-n.result - 1)
put c =
    one_given naming_total naming_exact c.self.inside.by_key.entries c.insert.new.self.entries (c.args.table, c.args.id, c.args.of) (c.of-n.result - 1)
    (sure c.insert.result c.insert.ensures.updates c.insert.ensures.absent (λ none.
    never (maps.get (maps.of_list c.self.inside.by_key.entries) (c.args.table, c.args.id, c.args.of)) c.of-n.result
    (c.of-n.ensures ∙ ap (λ m. count_at m (c.args.table, c.args.id, c.args.of)) (sym c.self.view_is)) c.if-n-le1.false
    (get-held naming_total c.self.inside.by_key.entries (c.args.table, c.args.id, c.args.of) ∙ none))).0

pub returns-else-n-le1 : goal.returns-else-n-le1
returns-else-n-le1 c =
    put c ∙ ap (λ m. maps.insert m (c.args.table, c.args.id, c.args.of) (c.of-n.result - 1)) c.self.view_is
    ∙ lowered_left c.args.self.now (c.args.table, c.args.id, c.args.of) c.of-n.result c.of-n.ensures c.if-n-le1.false
