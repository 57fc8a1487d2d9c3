use Rattle.std.proofs.Common.{◌≡◌, OnOk, ap, ◌∙◌, subst}
use Rattle.forward_program.specs.Spots.{Entries}
use Rattle.forward_program.specs.Hosts.{with_learnt}
use Rattle.forward_program.specs.Shown.{with_acls}
use Rattle.forward_program.proofs.fib.Fib.fill_all.Goals as goal

pub returns-clause-ok : goal.returns-clause-ok
returns-clause-ok g c =
    subst (λ (m : Entries). OnOk c.put_learnt.result (c.put_learnt.new.self.entries ≡ with_learnt c.args.learned.now.entries m))
    (c.in_ok-put_acls.ensures.ok ∙ ap (with_acls c.args.rows.now) c.in_ok-fill.ensures.ok) c.put_learnt.ensures.ok
