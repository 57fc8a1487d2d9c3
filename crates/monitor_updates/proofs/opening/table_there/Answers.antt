use Rattle.std.proofs.Common.{sym, ap, ◌∙◌}
use Rattle.serde_json.specs.View.{members_view}
use Rattle.json_notation.specs.Json.{to_members}
use Rattle.vtep_rows.specs.Rows.{ids_of}
use Rattle.monitor_updates.specs.Noted.{asked_of}
use Rattle.monitor_updates.proofs.Openings.{told_not, not_asked}
use Rattle.monitor_updates.proofs.opening.table_there.Goals as goal

pub returns-in_default : goal.returns-in_default
returns-in_default c =
    ap members_view c.new.ensures.empty
    ∙ ap to_members (sym (not_asked c.args.table (asked_of c.args.request.now c.args.table) c.args.rows.now (ids_of c.args.table c.args.rows.now) (rw c.in_default.is at c.asked_of.ensures)))

pub returns-then-not-asked : goal.returns-then-not-asked
returns-then-not-asked c =
    ap members_view c.new-then-not-asked.ensures.empty
    ∙ ap to_members (sym (told_not c.args.table (asked_of c.args.request.now c.args.table) c.in-Some.asked.now c.args.rows.now (ids_of c.args.table c.args.rows.now) (rw c.in-Some.is at c.asked_of.ensures) c.if-not-asked.true))
