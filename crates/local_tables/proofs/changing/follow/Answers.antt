use Rattle.std.proofs.Common.{rules, ◌≡◌, ◌<◌, [], IfErr, ap, subst, ◌∙◌}
use Rattle.vtep_base.specs.Answers.{OrMemory}
use Rattle.vtep_rows.specs.Faults.{rows_refusal}
use Rattle.vtep_rows.specs.Rows.{last_number}
use Rattle.vtep_rows.specs.Database.{Versions}
use Rattle.local_tables.specs.Followed.{own_locator, completed_by}
use Rattle.local_tables.specs.Following.{without_all}
use Rattle.local_tables.proofs.Versioned.{err_so, or_so}
use Rattle.local_tables.proofs.LeavingLaws.{staying_is}
use Rattle.local_tables.proofs.FollowIs.{steps_of, followed_is, spent_is}
use Rattle.local_tables.proofs.changing.follow.Goals as goal

pub returns-clause-rows : goal.returns-clause-rows
returns-clause-rows c =
    followed_is c.args.own c.args.database.now c.remove_stale.new.database c.args.learned.now.entries c.in_ok-missing.missing (steps_of c.args.own c.args.database.now c.remove_stale.new.database c.args.learned.now.entries c.in_ok-gone.gone c.as_slice-2.result.now c.rows.result.now c.in_ok-touched.touched c.as_slice.result.now c.as_slice-3.result.now
    c.in_ok-missing.missing c.requires.changed c.in_ok-gone.ensures c.in_ok-touched.ensures c.rows.ensures c.as_slice-2.ensures c.as_slice.ensures c.as_slice-3.ensures c.in_ok-missing.ensures.same c.in_ok-missing.ensures.order
    c.in_ok-remove_stale.ensures) c.add_floods.new.database c.collect.new.self
    (c.in_ok-add_floods.ensures.rows
    ∙ (λ j. let v : Versions = record { committed = c.remove_stale.new.database.committed; current = completed_by c.args.own (own_locator c.args.own c.remove_stale.new.database.current) (c.as_slice-4.ensures j) [] c.remove_stale.new.database.current } in v))
    c.in_ok-collect.ensures

pub returns-clause-gone : goal.returns-clause-gone
returns-clause-gone c =
    ap (λ gone. without_all gone c.args.learned.now.entries) c.in_ok-gone.ensures ∙ staying_is c.args.own c.args.database.now.committed c.args.database.now.current c.args.learned.now.entries c.requires.changed

pub returns-in_err-add_floods-clause-spent : goal.returns-in_err-add_floods-clause-spent
returns-in_err-add_floods-clause-spent c =
    let left = c.remove_stale.new.database in
    let told : IfErr c.from_residual-in_err-add_floods.result (λ fault. OrMemory (rows_refusal fault)
    (λ _. (last_number < (completed_by c.args.own (own_locator c.args.own left.current) c.as_slice-4.result.now [] left.current).counter) × (c.add_floods.new.database.committed ≡ left.committed))) = search rules in
    err_so c.from_residual-in_err-add_floods.result
    (λ fault. or_so (rows_refusal fault)
    (λ x h. (
      spent_is c.args.own c.args.database.now left c.args.learned.now.entries c.in_ok-missing.missing (steps_of c.args.own c.args.database.now c.remove_stale.new.database c.args.learned.now.entries c.in_ok-gone.gone c.as_slice-2.result.now c.rows.result.now c.in_ok-touched.touched c.as_slice.result.now c.as_slice-3.result.now
          c.in_ok-missing.missing c.requires.changed c.in_ok-gone.ensures c.in_ok-touched.ensures c.rows.ensures c.as_slice-2.ensures c.as_slice.ensures c.as_slice-3.ensures c.in_ok-missing.ensures.same c.in_ok-missing.ensures.order
          c.in_ok-remove_stale.ensures)
          (subst (λ ids. last_number < (completed_by c.args.own (own_locator c.args.own left.current) ids [] left.current).counter) c.as_slice-4.ensures h.0),
      h.1 ∙ ap (λ v. v.committed) c.in_ok-remove_stale.ensures,
    )))
    told
