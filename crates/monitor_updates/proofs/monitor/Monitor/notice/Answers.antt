use Rattle.std.proofs.Common.{◌≡◌, IfOk, option_map, subst, sym, ap, ◌∙◌}
use Rattle.serde_json.specs.View.{view}
use Rattle.monitor_updates.specs.Updates.{params_json}
use Rattle.monitor_updates.specs.OneRow.{noted_in}
use Rattle.monitor_updates.proofs.Tables.{noted_from}
use Rattle.monitor_updates.proofs.NoFraction.{notice_plain}
use Rattle.monitor_updates.proofs.monitor.Monitor.notice.Goals as goal

pub returns-clause-told : goal.returns-clause-told
returns-clause-told c old new e =
    subst (λ us. IfOk c.params_of.result (λ o. option_map view o ≡ params_json (view c.args.self.now.id) us))
    ((λ i. noted_in (c.as_slice.ensures i) (c.as_slice-2.ensures i)) ∙ ap (noted_in c.args.self.now.request) e ∙ sym (noted_from c.args.self.now.request old new))
    c.params_of.ensures

pub returns-clause-plain : goal.returns-clause-plain
returns-clause-plain c plain = notice_plain c.params_of.result (view c.args.self.now.id) _ plain c.params_of.ensures
