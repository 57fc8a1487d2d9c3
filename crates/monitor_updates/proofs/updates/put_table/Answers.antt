use Rattle.std.proofs.Common.{sym, ap, ◌∙◌, true≢false}
use Rattle.std.specs.Bool.{IsTrue}
use Rattle.serde_json.specs.Data.{put}
use Rattle.serde_json.specs.View.{members_view}
use Rattle.serde_json.proofs.Views.{view-Object}
use Rattle.monitor_updates.specs.OneRow.{with_some}
use Rattle.monitor_updates.proofs.Tables.{some_member}
use Rattle.monitor_updates.proofs.updates.put_table.Goals as goal

pub returns : goal.returns
returns c =
    c.in_ok-put.ensures.ok
    ∙ (λ i. put (c.table_name.ensures i) (view-Object c.args.rows i) (members_view c.args.members.now.entries))
    ∙ sym (ap (λ o. with_some o (members_view c.args.members.now.entries)) (some_member c.args.table c.args.rows.entries (λ none.
    let empty : IsTrue c.is_empty.result = c.is_empty.ensures.1 none in true≢false (sym empty ∙ c.if-is_empty.false))))
