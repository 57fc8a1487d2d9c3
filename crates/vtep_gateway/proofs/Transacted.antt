-- What a transaction comes to.
use Rattle.std.proofs.Common.{◌≡◌, ◌<◌, ◌^◌, ℕ, Bool, true, false, cond, List, [], Option, Some, None, Result, Ok, Err, OnOk, refl, sym, ap, subst, ◌∙◌, true≢false}
use Rattle.std.specs.Prelude.{is_err, IfOk}
use Rattle.serde_json.specs.Data.{Data}
use Rattle.serde_json.specs.View.{view}
use Rattle.serde_json.specs.Written.{has_float}
use Rattle.serde_json.specs.declared.value.Value.{Value}
use Rattle.vtep_base.specs.declared.words.Word.{Word}
use Rattle.vtep_rows.specs.declared.soundness.Rule.{Rule}
use Rattle.vtep_rows.specs.Rows.{Rows}
use Rattle.vtep_rows.specs.Database.{Versions}
use Rattle.vtep_rows.specs.declared.differences.RowChange.{RowChange}
use Rattle.vtep_rows.specs.Changes.{changes}
use Rattle.mac_learning.specs.declared.Learnt.{Learnt}
use Rattle.transact_profile.specs.declared.operations.Ops.{Ops}
use Rattle.transact_profile.specs.Meaning.{Reply, Outcome, Ran, outcome, names_of, run_from, first_word, fault_word, means}
use Rattle.transact_profile.specs.Finish.{finished}
use Rattle.transact_profile.specs.Transaction.{ops_in}
use Rattle.forward_program.specs.Readings.{own_ip}
use Rattle.local_tables.specs.Followed.{Committed, commit}
use Rattle.local_tables.specs.Following.{without_all}
use Rattle.local_tables.specs.Local.{IsChanged}
use Rattle.vtep_gateway.specs.Vtep.{Vtep}
use Rattle.vtep_gateway.specs.Commit.{committed, commit_of}
use Rattle.vtep_gateway.specs.Methods.{only, ended, transacted}
use Rattle.vtep_gateway.specs.Monitors.{told_all}
use Rattle.vtep_gateway.specs.Good.{IsGood}
use Rattle.vtep_gateway.proofs.Changing.{operations_change}
use Rattle.vtep_gateway.proofs.FollowedSettled.{own_small}
use Rattle.vtep_gateway.proofs.GoodKept.{transact_good}

failed_by : (before : Rows) (count : ℕ) (results : List Reply) (after : Rows) (o : Option Word) → (outcome before count results after o).failed ≡ true → (outcome before count results after o).rows ≡ before
failed_by before count results after None h = cc
failed_by before count results after (Some w) h = refl

-- one that fails changes no row
pub failed_rows : (ops : Ops) (r : Rows) → (means ops r).failed ≡ true → (means ops r).rows ≡ r
failed_rows ops r h = let ran : Ran = run_from (names_of ops r) [] r ops.ops in failed_by r ops.count ran.results ran.rows (first_word ran.stopped (fault_word ops.fault)) h

module _ (v : Vtep) (o : Outcome) where
  pub failed_done : o.failed ≡ true → transacted v o ≡ only v (Ok (finished o.results None))
  failed_done h = ap (λ b. cond b (only v (Ok (finished o.results None))) (ended v o.results (commit_of v o.rows v.learned))) h

  done : o.failed ≡ false → transacted v o ≡ ended v o.results (commit_of v o.rows v.learned)
  done h = ap (λ b. cond b (only v (Ok (finished o.results None))) (ended v o.results (commit_of v o.rows v.learned))) h

  pub kept_done : (c : Committed) → o.failed ≡ false → commit_of v o.rows v.learned ≡ Ok c → transacted v o ≡ record { vtep = (committed v c).vtep; before = (committed v c).sends; result = Ok (finished o.results None) }
  kept_done c h told = done h ∙ ap (ended v o.results) told

  pub broken_done : (rule : Rule) → o.failed ≡ false → commit_of v o.rows v.learned ≡ Err rule → transacted v o ≡ only v (Ok (finished o.results (Some rule)))
  broken_done rule h told = done h ∙ ap (ended v o.results) told

-- operations that run over the rows of a good gateway, from where they were committed
module _ (v : Vtep) (begun after : Versions) (ops : Ops) (params : Data) (own : ℕ) (good : IsGood v.rows v.learned) (read : ops ≡ ops_in params)
    (starts : begun ≡ record { committed = v.rows; current = v.rows }) (ran : after ≡ record begun { current = (means ops begun.current).rows }) (own_is : own ≡ own_ip v.rows) where
  abbrev o : Outcome
  o = means (ops_in params) v.rows

  means_is : means ops begun.current ≡ o
  means_is = (λ i. let d : Versions = starts i in means (read i) d.current)

  ran_is : after ≡ record { committed = v.rows; current = o.rows }
  ran_is = ran ∙ (λ i. let d : Versions = starts i in record { committed = d.committed; current = (means (read i) d.current).rows })

  pub ran_fits : own < 2 ^ 32
  ran_fits = subst (λ n. n < 2 ^ 32) (sym own_is) (own_small v.rows good.settled)

  pub ran_changed : IsChanged own after.committed after.current v.learned
  ran_changed = subst (λ (p : ℕ × Versions). IsChanged p.0 p.1.committed p.1.current v.learned) (λ i. (sym own_is i, sym ran_is i)) (operations_change params v.rows v.learned good)

  commits_same : commit own after.committed after.current v.learned ≡ commit_of v o.rows v.learned
  commits_same = (λ i. let d : Versions = ran_is i in commit (own_is i) d.committed d.current v.learned)

  module _ (rows : Rows) (gone : List Learnt) (told : commit own after.committed after.current v.learned ≡ Ok (record { rows = rows; learned = without_all gone v.learned })) where
    kept_so : commit_of v o.rows v.learned ≡ Ok (record { rows = rows; learned = without_all gone v.learned })
    kept_so = sym commits_same ∙ told

    pub ran_good : IsGood rows (without_all gone v.learned)
    ran_good = transact_good params v.rows v.learned (record { rows = rows; learned = without_all gone v.learned }) good kept_so

    pub ran_change : (change : List RowChange) → change ≡ changes after.committed rows → change ≡ changes v.rows rows
    ran_change change is = is ∙ ap (λ (d : Versions). changes d.committed rows) ran_is

  pub ran_back : (rows : Rows) → rows ≡ after.committed → rows ≡ v.rows
  ran_back rows is = is ∙ ap (λ (d : Versions). d.committed) ran_is

  module _ (failed : Bool) (is_failed : failed ≡ (means ops begun.current).failed) (results : List Reply) (is_results : results ≡ (means ops begun.current).results) where
    failed_so : failed ≡ o.failed
    failed_so = is_failed ∙ ap (λ (x : Outcome). x.failed) means_is

    results_so : results ≡ o.results
    results_so = is_results ∙ ap (λ (x : Outcome). x.results) means_is

    pub failed_same : failed ≡ true → after.current ≡ v.rows
    failed_same h = ap (λ (d : Versions). d.current) ran_is ∙ failed_rows (ops_in params) v.rows (sym failed_so ∙ h)

    pub failed_is : failed ≡ true → transacted v o ≡ only v (Ok (finished results None))
    failed_is h = failed_done v o (sym failed_so ∙ h) ∙ ap (λ rs. only v (Ok (finished rs None))) (sym results_so)

    pub kept_is : (rows : Rows) (gone : List Learnt) → failed ≡ false → commit own after.committed after.current v.learned ≡ Ok (record { rows = rows; learned = without_all gone v.learned })
        → transacted v o ≡ record { vtep = record v { rows = rows; learned = without_all gone v.learned }; before = told_all v.rows rows v.monitors; result = Ok (finished results None) }
    kept_is rows gone h told =
        kept_done v o (record { rows = rows; learned = without_all gone v.learned }) (sym failed_so ∙ h) (kept_so rows gone told)
        ∙ ap (λ rs. record { vtep = record v { rows = rows; learned = without_all gone v.learned }; before = told_all v.rows rows v.monitors; result = Ok (finished rs None) }) (sym results_so)

    pub broken_is : (rule : Rule) → failed ≡ false → commit own after.committed after.current v.learned ≡ Err rule → transacted v o ≡ only v (Ok (finished results (Some rule)))
    broken_is rule h told = broken_done v o rule (sym failed_so ∙ h) (sym commits_same ∙ told) ∙ ap (λ rs. only v (Ok (finished rs (Some rule)))) (sym results_so)

-- ---- what a call gives

pub only_ok : {T E : Type 0} (P : Type 0) (r : Result T E) → is_err r ≡ true → OnOk r P
only_ok P (Ok x) h = absurd (true≢false (sym h))
only_ok P (Err e) h = tt

pub plain_so : {E : Type 0} (r : Result Value E) (d : Data) → has_float d ≡ false → IfOk r (λ x. view x ≡ d) → IfOk r (λ x. has_float (view x) ≡ false)
plain_so (Ok x) d plain h = ap has_float h ∙ plain
plain_so (Err e) d plain h = tt

pub result_so : {E : Type 0} (r : Result Value E) (d : Data) (t : Result Data Word) → Ok d ≡ t → IfOk r (λ x. view x ≡ d) → IfOk r (λ x. Ok (view x) ≡ t)
result_so (Ok x) d t is h = ap Ok h ∙ is
result_so (Err e) d t is h = tt
