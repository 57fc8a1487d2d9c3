use Rattle.std.proofs.Common.{◌++◌, sym, ap, subst, ◌∙◌}
use Rattle.std.specs.Prelude.{IsUtf8}
use Rattle.json.specs.Print.{quoted}
use Rattle.serde_json.specs.View.{view}
use Rattle.rpc_framing.specs.Told.{IsPrinted}
use Rattle.rpc_framing.proofs.Printed.{called_whole}
use Rattle.rpc_framing.proofs.Texts.{called_text, on_ok}
use Rattle.rpc_framing.proofs.printing.print_call.Goals as goal

pub returns-clause-ok : goal.returns-clause-ok
returns-clause-ok c =
    let method = c.as_slice.ensures ∙ c.in_ok-method.ensures ∙ ap quoted (c.as_bytes.ensures.value ∙ c.as_str.ensures) in
    on_ok c.append_all.result
    (λ e none. e ∙ ap (λ t. c.args.out.now ++ t) (called_text c.args.method.now (view c.args.params.now) (view c.args.id.now) c.as_slice.result.now c.as_bytes-3.result.now c.as_bytes-2.result.now
    method (λ n. c.as_bytes-3.ensures.value ∙ c.in_ok-params.ensures.text n) (λ n. c.as_bytes-2.ensures.value ∙ c.in_ok-id.ensures.text n) none))
    c.append_all.ensures.ok

pub returns-clause-whole : goal.returns-clause-whole
returns-clause-whole c =
    let method = c.as_slice.ensures ∙ c.in_ok-method.ensures ∙ ap quoted (c.as_bytes.ensures.value ∙ c.as_str.ensures) in
    let utf8 = subst IsUtf8 (c.as_bytes.ensures.value ∙ c.as_str.ensures) c.as_bytes.ensures.utf8 in
    on_ok c.append_all.result
    (λ e shallow.
    (let w = called_whole c.args.method.now (view c.args.params.now) (view c.args.id.now) c.as_slice.result.now c.as_bytes-3.result.now c.as_bytes-2.result.now method utf8
    (λ s. subst (λ t. IsPrinted t (view c.args.params.now)) (sym c.as_bytes-3.ensures.value) (c.in_ok-params.ensures.printed s))
    (λ s. subst (λ t. IsPrinted t (view c.args.id.now)) (sym c.as_bytes-2.ensures.value) (c.in_ok-id.ensures.printed s)) shallow in
    (_, e, w.0, w.1)))
    c.append_all.ensures.ok
