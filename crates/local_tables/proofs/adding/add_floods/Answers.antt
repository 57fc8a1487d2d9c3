use Rattle.std.proofs.Common.{rules, ◌≡◌, ◌<◌, IfErr, ◌∙◌, sym}
use Rattle.vtep_base.specs.Answers.{OrMemory}
use Rattle.vtep_rows.specs.Faults.{rows_refusal}
use Rattle.vtep_rows.specs.Rows.{last_number}
use Rattle.local_tables.specs.Followed.{own_locator, located}
use Rattle.local_tables.proofs.Versioned.{first_spent, err_so, or_so}
use Rattle.local_tables.proofs.adding.add_floods.Goals as goal

pub returns-in_err-locator-clause-spent : goal.returns-in_err-locator-clause-spent
returns-in_err-locator-clause-spent c =
    let r = c.args.database.now.current in
    let told : IfErr c.from_residual.result (λ fault. OrMemory (rows_refusal fault)
    (λ _. (last_number < (located c.args.own (own_locator c.args.own r) r).counter) × (c.locate.new.database.committed ≡ c.args.database.now.committed))) = search rules in
    err_so c.from_residual.result (λ fault. or_so (rows_refusal fault) (λ x h. (first_spent c.args.own (own_locator c.args.own r) r c.args.switches.now (sym c.is_empty.ensures ∙ c.if-is_empty.false) h.0, h.1))) told
