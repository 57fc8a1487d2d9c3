use Rattle.std.proofs.Common.{cond, Err, sym, ap, ◌∙◌, arith}
use Rattle.vtep_base.specs.declared.words.Word.TheVariants.{NotSupported, SyntaxError}
use Rattle.monitor_updates.proofs.Forms.{of_several}
use Rattle.monitor_updates.proofs.requests.form_among.Goals as goal

pub returns-then-all_forms : goal.returns-then-all_forms
returns-then-all_forms c =
    of_several c.args.values.now (omega arith) ∙ ap (λ b. cond b (Err NotSupported) (Err SyntaxError)) (sym c.all_forms.ensures ∙ c.if-all_forms.true)

pub returns-else-all_forms : goal.returns-else-all_forms
returns-else-all_forms c =
    of_several c.args.values.now (omega arith) ∙ ap (λ b. cond b (Err NotSupported) (Err SyntaxError)) (sym c.all_forms.ensures ∙ c.if-all_forms.false)
