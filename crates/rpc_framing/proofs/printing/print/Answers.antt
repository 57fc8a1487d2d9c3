use Rattle.std.proofs.Common.{◌≤◌, sym, ap, subst, ◌∙◌}
use Rattle.std.specs.Prelude.{OnOk}
use Rattle.serde_json.specs.Data.{depth}
use Rattle.serde_json.specs.View.{view}
use Rattle.rpc_framing.specs.Said.{said}
use Rattle.rpc_framing.specs.Told.{AppendsWhole}
use Rattle.rpc_framing.specs.Written.{called_json, message_json}
use Rattle.rpc_framing.proofs.Printed.{view_null, call_told}
use Rattle.rpc_framing.proofs.printing.print.Goals as goal

pub returns-in-Request-clause-whole : goal.returns-in-Request-clause-whole
returns-in-Request-clause-whole c =
    let p = c.print_call in
    subst (λ d. OnOk p.result (depth d ≤ 64 → AppendsWhole c.args.out.now p.new.out d)) (sym (ap (λ m. message_json (said m)) c.in-Request.is)) p.ensures.whole

pub returns-in-Request-clause-told : goal.returns-in-Request-clause-told
returns-in-Request-clause-told c = call_told c.print_call.result c.args.out.now c.print_call.new.out (said c.args.message.now) (returns-in-Request-clause-whole c)

pub returns-in-Notification-clause-whole : goal.returns-in-Notification-clause-whole
returns-in-Notification-clause-whole c =
    let n = c.in-Notification in
    let p = c.print_call-in-Notification in
    subst (λ d. OnOk p.result (depth d ≤ 64 → AppendsWhole c.args.out.now p.new.out d)) (sym (ap (λ m. message_json (said m)) n.is ∙ ap (called_json n.method (view n.params)) (sym view_null))) p.ensures.whole

pub returns-in-Notification-clause-told : goal.returns-in-Notification-clause-told
returns-in-Notification-clause-told c = call_told c.print_call-in-Notification.result c.args.out.now c.print_call-in-Notification.new.out (said c.args.message.now) (returns-in-Notification-clause-whole c)

pub returns-in-Response-clause-whole : goal.returns-in-Response-clause-whole
returns-in-Response-clause-whole c =
    let p = c.print_response in
    subst (λ d. OnOk p.result (depth d ≤ 64 → AppendsWhole c.args.out.now p.new.out d)) (sym (ap (λ m. message_json (said m)) c.in-Response.is)) p.ensures.whole

pub returns-in-Response-clause-told : goal.returns-in-Response-clause-told
returns-in-Response-clause-told c = call_told c.print_response.result c.args.out.now c.print_response.new.out (said c.args.message.now) (returns-in-Response-clause-whole c)
