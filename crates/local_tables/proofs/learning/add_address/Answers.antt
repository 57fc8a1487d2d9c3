use Rattle.std.proofs.Common.{rules, ◌≡◌, ◌<◌, ◌++◌, [], ◌∷◌, IfErr, refl, ap, sym, ◌∙◌}
use Rattle.vtep_base.specs.Answers.{OrMemory}
use Rattle.vtep_rows.specs.Faults.{rows_refusal}
use Rattle.vtep_rows.specs.Rows.{Rows, inserted, collected, last_number}
use Rattle.vtep_rows.specs.Database.{Versions}
use Rattle.local_tables.specs.LocalRows.{address_row}
use Rattle.local_tables.specs.Followed.{own_locator, located, followed}
use Rattle.local_tables.proofs.Versioned.{address_added, err_so, or_so}
use Rattle.local_tables.proofs.LearningLaws.{learning_is, is_located, no_locator_spent}
use Rattle.local_tables.proofs.learning.add_address.Goals as goal

pub returns-clause-rows : goal.returns-clause-rows
returns-clause-rows c = λ before new is at_switch at_mac.
    let r = c.args.database.now.current in
    let own = c.args.own in
    address_added c.args.database.now c.locate.new.database c.insert.new.self c.collect.new.self (located own (own_locator own r) r) (followed own r r (before ++ new ∷ [])).rows c.in_ok-row.row
    c.in_ok-locator.ensures.rows c.in_ok-insert.ensures.ok c.in_ok-collect.ensures
    (ap (λ row. collected (inserted (located own (own_locator own r) r) row)) (c.in_ok-row.ensures ∙ (λ i. address_row (sym at_switch i, sym at_mac i) (c.in_ok-locator.ensures.id i)))
    ∙ learning_is own r before new is)

pub returns-in_err-locator-clause-spent : goal.returns-in_err-locator-clause-spent
returns-in_err-locator-clause-spent c = λ before new is.
    let r = c.args.database.now.current in
    let told : IfErr c.from_residual.result (λ fault. OrMemory (rows_refusal fault)
    (λ _. (last_number < (located c.args.own (own_locator c.args.own r) r).counter) × (c.locate.new.database.committed ≡ c.args.database.now.committed))) = search rules in
    err_so c.from_residual.result (λ fault. or_so (rows_refusal fault) (λ x h. absurd (no_locator_spent c.args.own r before new is h.0))) told

pub returns-in_err-insert-clause-spent : goal.returns-in_err-insert-clause-spent
returns-in_err-insert-clause-spent c = λ before new is.
    let r = c.args.database.now.current in
    let told : IfErr c.from_residual-in_err-insert.result (λ fault. OrMemory (rows_refusal fault) (λ _. c.locate.new.database.current.counter ≡ last_number)) = search rules in
    err_so c.from_residual-in_err-insert.result
    (λ fault. or_so (rows_refusal fault)
    (λ x h. (
      ap (λ (x : Rows). x.counter) (sym (is_located c.args.own r before new is (own_locator c.args.own r) refl)) ∙ sym (ap (λ (v : Versions). v.current.counter) c.in_ok-locator.ensures.rows) ∙ h,
      ap (λ (v : Versions). v.committed) (c.in_err-insert.ensures.err ∙ c.in_ok-locator.ensures.rows),
    )))
    told
