use Rattle.std.proofs.Common.{◌≡◌, Option, OnOk, ap, subst, ◌∙◌}
use Rattle.vtep_rows.specs.Row.{Contents}
use Rattle.forward_program.specs.Follows.{remote_address, asked}
use Rattle.forward_program.proofs.Asked.{both_asked}
use Rattle.forward_program.proofs.fib.Fib.ask_both.Goals as goal

pub returns-clause-ok : goal.returns-clause-ok
returns-clause-ok g c =
    both_asked _ c.args.learned.now.entries (remote_address c.args.change.now.old) (remote_address c.args.change.now.new) c.args.self.now.entries c.ask_row.new.self.entries c.ask_row-2.new.self.entries
    (c.in_ok-ask_row.ensures.ok ∙ ap (λ (o : Option Contents). asked c.args.learned.now.entries (remote_address o) c.args.self.now.entries) c.as_ref.ensures.value)
    (subst (λ (o : Option Contents). OnOk c.ask_row-2.result (c.ask_row-2.new.self.entries ≡ asked c.args.learned.now.entries (remote_address o) c.ask_row.new.self.entries)) c.as_ref-2.ensures.value c.ask_row-2.ensures.ok)
