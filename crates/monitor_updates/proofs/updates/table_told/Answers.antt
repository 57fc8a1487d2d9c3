use Rattle.std.proofs.Common.{sym, ap, ◌∙◌}
use Rattle.serde_json.specs.View.{members_view}
use Rattle.json_notation.specs.Json.{to_members}
use Rattle.monitor_updates.specs.Noted.{asked_of}
use Rattle.monitor_updates.proofs.Tables.{nothing_in}
use Rattle.monitor_updates.proofs.updates.table_told.Goals as goal

pub returns-in-None : goal.returns-in-None
returns-in-None c =
    ap members_view c.new.ensures.empty
    ∙ ap to_members (sym (nothing_in c.args.table (asked_of c.args.request.now c.args.table) c.args.change.now (rw c.in-None.is at c.asked_of.ensures)))
