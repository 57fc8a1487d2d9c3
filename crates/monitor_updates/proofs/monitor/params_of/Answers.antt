use Rattle.std.proofs.Common.{Some, sym, ap, ◌∙◌, true≢false}
use Rattle.serde_json.specs.View.{view, members_view}
use Rattle.monitor_updates.specs.Updates.{params_json, tables_json}
use Rattle.monitor_updates.specs.OneRow.{noted_in}
use Rattle.monitor_updates.proofs.Tables.{in_told, no_entries, some_entries}
use Rattle.monitor_updates.proofs.Among.{nothing_told, something_told}
use Rattle.monitor_updates.proofs.monitor.params_of.Goals as goal

pub returns-then-is_empty : goal.returns-then-is_empty
returns-then-is_empty c =
    sym
    (ap (params_json (view c.args.id.now))
    (nothing_told (noted_in c.args.request.now c.args.change.now)
    ((λ i. tables_json (λ t. in_told c.args.request.now t c.args.change.now i)) ∙ sym c.in_ok-tables.ensures ∙ no_entries c.in_ok-tables.tables.entries (c.is_empty.ensures.0 c.if-is_empty.true))))

pub returns : goal.returns
returns c =
    ap Some c.in_ok-told_params.ensures
    ∙ sym
    (something_told (view c.args.id.now) (noted_in c.args.request.now c.args.change.now) (members_view c.in_ok-tables.tables.entries)
    ((λ i. tables_json (λ t. in_told c.args.request.now t c.args.change.now i)) ∙ sym c.in_ok-tables.ensures)
    (some_entries c.in_ok-tables.tables.entries (λ none. true≢false (sym (c.is_empty.ensures.1 none) ∙ c.if-is_empty.false))))
