use Rattle.std.proofs.Common.{◌≡◌, ◌++◌, OnOk, subst, ◌∙◌}
use Rattle.forward_program.specs.Joins.{facts_of}
use Rattle.vtep_gateway.specs.Show.{show_text}
use Rattle.vtep_gateway.proofs.running.Running.write_facts.Goals as goal

pub returns : goal.returns
returns g c =
    subst (λ text. OnOk c.show.result (c.show.new.out ≡ c.args.out.now ++ text))
    (λ i. show_text (c.name.ensures i) (c.rows.ensures i) (facts_of ((c.fib.ensures ∙ c.requires.fib) i).entries)) c.show.ensures
