use Rattle.std.proofs.Common.{sym, ap, ◌∙◌}
use Rattle.serde_json.specs.Data.{object}
use Rattle.serde_json.proofs.Views.{view-Object}
use Rattle.monitor_updates.proofs.Openings.{opening_of}
use Rattle.monitor_updates.proofs.opening.opening.Goals as goal

pub returns : goal.returns
returns c = view-Object _ ∙ ap object c.in_ok-tables_there.ensures ∙ sym (opening_of c.args.request.now c.args.rows.now)
