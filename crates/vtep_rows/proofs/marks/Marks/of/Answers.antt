use Rattle.std.proofs.Common.{sym, ap, ◌∙◌}
use Rattle.std.specs.Option.{unwrap_or}
use Rattle.vtep_base.proofs.Held.{get-held}
use Rattle.vtep_rows.specs.Tallies.{count_at}
use Rattle.vtep_rows.specs.MarkOrders.{mark_total}
use Rattle.vtep_rows.proofs.marks.Marks.of.Goals as goal

pub returns : goal.returns
returns c =
    c.unwrap_or.ensures
    ∙ ap (λ o. unwrap_or o 0) (c.copied.ensures ∙ c.get.ensures.value ∙ sym (get-held mark_total c.self.inside.by_mark.entries (c.args.table, c.args.place, c.args.stamp.number, c.args.stamp.id, c.args.row)))
    ∙ ap (λ m. count_at m (c.args.table, c.args.place, c.args.stamp.number, c.args.stamp.id, c.args.row)) c.self.view_is
