use Rattle.std.proofs.Common.{◌++◌, sym, ap, subst, ◌∙◌}
use Rattle.serde_json.specs.View.{view}
use Rattle.rpc_framing.specs.Told.{IsPrinted}
use Rattle.rpc_framing.proofs.Printed.{answer_whole}
use Rattle.rpc_framing.proofs.Texts.{answer_text, on_ok}
use Rattle.rpc_framing.proofs.printing.print_response.Goals as goal

pub returns-clause-ok : goal.returns-clause-ok
returns-clause-ok c =
    on_ok c.append_all.result
    (λ e none. e ∙ ap (λ t. c.args.out.now ++ t) (answer_text (view c.args.outcome.now) (view c.args.error.now) (view c.args.id.now) c.as_bytes-3.result.now c.as_bytes.result.now c.as_bytes-2.result.now
    (λ n. c.as_bytes-3.ensures.value ∙ c.in_ok-outcome.ensures.text n) (λ n. c.as_bytes.ensures.value ∙ c.in_ok-error.ensures.text n) (λ n. c.as_bytes-2.ensures.value ∙ c.in_ok-id.ensures.text n) none))
    c.append_all.ensures.ok

pub returns-clause-whole : goal.returns-clause-whole
returns-clause-whole c =
    on_ok c.append_all.result
    (λ e shallow.
    (let w = answer_whole (view c.args.outcome.now) (view c.args.error.now) (view c.args.id.now) c.as_bytes-3.result.now c.as_bytes.result.now c.as_bytes-2.result.now
    (λ s. subst (λ t. IsPrinted t (view c.args.outcome.now)) (sym c.as_bytes-3.ensures.value) (c.in_ok-outcome.ensures.printed s))
    (λ s. subst (λ t. IsPrinted t (view c.args.error.now)) (sym c.as_bytes.ensures.value) (c.in_ok-error.ensures.printed s))
    (λ s. subst (λ t. IsPrinted t (view c.args.id.now)) (sym c.as_bytes-2.ensures.value) (c.in_ok-id.ensures.printed s)) shallow in
    (_, e, w.0, w.1)))
    c.append_all.ensures.ok
