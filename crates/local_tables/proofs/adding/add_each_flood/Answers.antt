use Rattle.std.proofs.Common.{rules, ◌≡◌, ◌<◌, IfErr, get_or, ap, ◌∙◌}
use Rattle.vtep_base.specs.Answers.{OrMemory}
use Rattle.vtep_rows.specs.Faults.{rows_refusal}
use Rattle.vtep_rows.specs.Rows.{last_number}
use Rattle.local_tables.specs.Followed.{with_flood}
use Rattle.local_tables.proofs.Versioned.{one_flooded, one_spent, err_so, or_so}
use Rattle.local_tables.proofs.adding.add_each_flood.Goals as goal

pub switches-preserved : goal.switches-preserved
switches-preserved c = record {
  committed = ap (λ v. v.committed) c.in_ok-add_flood.ensures.rows ∙ c.switches.invariant.committed;
  current = one_flooded c.args.locator c.switches.database.current c.add_flood.new.database.current c.args.switches.now c.switches.switch-index 0 c.switches-test.true
      (ap (λ v. v.current) c.in_ok-add_flood.ensures.rows) ∙ c.switches.invariant.current;
}

pub returns-in_err-add_flood-clause-spent : goal.returns-in_err-add_flood-clause-spent
returns-in_err-add_flood-clause-spent c =
    let told : IfErr c.from_residual.result (λ fault. OrMemory (rows_refusal fault)
    (λ _. (last_number < (with_flood c.args.locator c.switches.database.current (get_or c.args.switches.now c.switches.switch-index 0)).counter) × (c.add_flood.new.database.committed ≡ c.switches.database.committed))) = search rules in
    err_so c.from_residual.result
    (λ fault. or_so (rows_refusal fault)
    (λ x h. (one_spent c.args.locator c.args.database.now.current c.switches.database.current c.args.switches.now c.switches.switch-index 0 c.switches-test.true c.switches.invariant.current h.0, h.1 ∙ c.switches.invariant.committed)))
    told
