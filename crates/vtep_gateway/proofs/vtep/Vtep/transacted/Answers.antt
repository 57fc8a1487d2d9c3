use Rattle.std.proofs.Common.{rules, ◌≡◌, true, ◌++◌, map, Some, None, Ok, sym, ap, subst, ◌∙◌, append-nil}
use Rattle.std.specs.Prelude.{is_err}
use Rattle.serde_json.specs.View.{view}
use Rattle.serde_json.specs.Written.{has_float}
use Rattle.vtep_rows.specs.Changes.{changes}
use Rattle.vtep_rows.proofs.TouchedCollected.{if_ok}
use Rattle.forward_program.specs.Readings.{own_ip}
use Rattle.transact_profile.specs.Meaning.{means}
use Rattle.transact_profile.specs.Transaction.{ops_in}
use Rattle.transact_profile.specs.Finish.{seen, finished}
use Rattle.vtep_gateway.specs.Vtep.{Vtep}
use Rattle.vtep_gateway.specs.Methods.{Done, transacted}
use Rattle.vtep_gateway.specs.Good.{IsGood}
use Rattle.vtep_gateway.specs.Ready.{fib_of}
use Rattle.vtep_gateway.specs.contracts.vtep.Vtep.{the_view}
use Rattle.vtep_gateway.proofs.NoFraction.{plain_finished}
use Rattle.vtep_gateway.proofs.Transacted.{ran_changed, ran_good, ran_change, ran_back, failed_same, kept_is, broken_is, only_ok, plain_so, result_so}
use Rattle.vtep_gateway.proofs.vtep.Vtep.transacted.Goals as goal

pub commit-requires-clause-changed : goal.commit-requires-clause-changed
commit-requires-clause-changed g c =
    let v : Vtep = the_view c.self.inside in
    let good : IsGood v.rows v.learned = subst (λ (w : Vtep). IsGood w.rows w.learned) (sym c.self.view_is) c.requires.good in
    let own : c.own_address-own.result ≡ own_ip v.rows = search rules in
    ran_changed v c.begin.new.self c.transact_on.new.database c.in_ok-ops.ops (view c.args.params) c.own_address-own.result good c.in_ok-ops.ensures c.begin.ensures c.in_ok-outcome.ensures.rows own

pub conclude-requires-clause-good : goal.conclude-requires-clause-good
conclude-requires-clause-good g c =
    let v : Vtep = the_view c.self.inside in
    let good : IsGood v.rows v.learned = subst (λ (w : Vtep). IsGood w.rows w.learned) (sym c.self.view_is) c.requires.good in
    let own : c.own_address-own.result ≡ own_ip v.rows = search rules in
    ran_good v c.begin.new.self c.transact_on.new.database c.in_ok-ops.ops (view c.args.params) c.own_address-own.result good c.in_ok-ops.ensures c.begin.ensures c.in_ok-outcome.ensures.rows own c.commit.new.database.current c.in-Ok.kept.gone c.in-Ok.ensures.kept

pub returns-then-outcome-clause-fib : goal.returns-then-outcome-clause-fib
returns-then-outcome-clause-fib g c =
    let v : Vtep = the_view c.self.inside in
    let good : IsGood v.rows v.learned = subst (λ (w : Vtep). IsGood w.rows w.learned) (sym c.self.view_is) c.requires.good in
    let own : c.own_address-own.result ≡ own_ip v.rows = search rules in
    if_ok c.finish.result (c.requires.fib ∙ ap (λ (w : Vtep). fib_of w.rows w.learned) (sym c.self.view_is) ∙ ap (λ r. fib_of r v.learned) (sym (failed_same v c.begin.new.self c.transact_on.new.database c.in_ok-ops.ops (view c.args.params) c.own_address-own.result good c.in_ok-ops.ensures c.begin.ensures c.in_ok-outcome.ensures.rows own c.in_ok-outcome.outcome.failed c.in_ok-outcome.ensures.failed (map seen c.in_ok-outcome.outcome.results) c.in_ok-outcome.ensures.results c.if-outcome.true)))

pub returns-then-outcome-clause-plain : goal.returns-then-outcome-clause-plain
returns-then-outcome-clause-plain g c =
    plain_so c.finish.result (finished (map seen c.in_ok-outcome.outcome.results) None) (ap (λ rs. has_float (finished rs None)) c.in_ok-outcome.ensures.results ∙ plain_finished c.in_ok-ops.ops c.begin.new.self.current None) c.finish.ensures

pub returns-in_err-conclude-in-Ok-clause-left : goal.returns-in_err-conclude-in-Ok-clause-left
returns-in_err-conclude-in-Ok-clause-left g c =
    let err : is_err c.from_residual-in_err-conclude-in-Ok.result ≡ true = search rules in
    only_ok _ c.from_residual-in_err-conclude-in-Ok.result err

pub returns-in_err-conclude-in-Ok-clause-before : goal.returns-in_err-conclude-in-Ok-clause-before
returns-in_err-conclude-in-Ok-clause-before g c =
    let err : is_err c.from_residual-in_err-conclude-in-Ok.result ≡ true = search rules in
    only_ok _ c.from_residual-in_err-conclude-in-Ok.result err

pub returns-in-Ok-clause-left : goal.returns-in-Ok-clause-left
returns-in-Ok-clause-left g c =
    let v : Vtep = the_view c.self.inside in
    let good : IsGood v.rows v.learned = subst (λ (w : Vtep). IsGood w.rows w.learned) (sym c.self.view_is) c.requires.good in
    let own : c.own_address-own.result ≡ own_ip v.rows = search rules in
    let change : c.in-Ok.kept.change ≡ changes v.rows c.commit.new.database.current = ran_change v c.begin.new.self c.transact_on.new.database c.in_ok-ops.ops (view c.args.params) c.own_address-own.result good c.in_ok-ops.ensures c.begin.ensures c.in_ok-outcome.ensures.rows own c.commit.new.database.current c.in-Ok.kept.gone c.in-Ok.ensures.kept c.in-Ok.kept.change c.in-Ok.ensures.change in
    let is = kept_is v c.begin.new.self c.transact_on.new.database c.in_ok-ops.ops (view c.args.params) c.own_address-own.result good c.in_ok-ops.ensures c.begin.ensures c.in_ok-outcome.ensures.rows own c.in_ok-outcome.outcome.failed c.in_ok-outcome.ensures.failed (map seen c.in_ok-outcome.outcome.results) c.in_ok-outcome.ensures.results c.commit.new.database.current c.in-Ok.kept.gone c.if-outcome.false c.in-Ok.ensures.kept in
    if_ok c.finish-in-Ok.result (c.in_ok-conclude-in-Ok.ensures.left ∙ sym (ap (λ (d : Done). d.vtep) is) ∙ ap (λ (w : Vtep). (transacted w (means (ops_in (view c.args.params)) w.rows)).vtep) c.self.view_is)

pub returns-in-Ok-clause-before : goal.returns-in-Ok-clause-before
returns-in-Ok-clause-before g c =
    let v : Vtep = the_view c.self.inside in
    let good : IsGood v.rows v.learned = subst (λ (w : Vtep). IsGood w.rows w.learned) (sym c.self.view_is) c.requires.good in
    let own : c.own_address-own.result ≡ own_ip v.rows = search rules in
    let change : c.in-Ok.kept.change ≡ changes v.rows c.commit.new.database.current = ran_change v c.begin.new.self c.transact_on.new.database c.in_ok-ops.ops (view c.args.params) c.own_address-own.result good c.in_ok-ops.ensures c.begin.ensures c.in_ok-outcome.ensures.rows own c.commit.new.database.current c.in-Ok.kept.gone c.in-Ok.ensures.kept c.in-Ok.kept.change c.in-Ok.ensures.change in
    let is = kept_is v c.begin.new.self c.transact_on.new.database c.in_ok-ops.ops (view c.args.params) c.own_address-own.result good c.in_ok-ops.ensures c.begin.ensures c.in_ok-outcome.ensures.rows own c.in_ok-outcome.outcome.failed c.in_ok-outcome.ensures.failed (map seen c.in_ok-outcome.outcome.results) c.in_ok-outcome.ensures.results c.commit.new.database.current c.in-Ok.kept.gone c.if-outcome.false c.in-Ok.ensures.kept in
    if_ok c.finish-in-Ok.result
    (c.in_ok-conclude-in-Ok.ensures.told v.rows change ∙ ap (λ (d : Done). c.args.sends.now ++ d.before) (sym is) ∙ ap (λ (w : Vtep). c.args.sends.now ++ (transacted w (means (ops_in (view c.args.params)) w.rows)).before) c.self.view_is)

pub returns-in-Ok-clause-result : goal.returns-in-Ok-clause-result
returns-in-Ok-clause-result g c =
    let v : Vtep = the_view c.self.inside in
    let good : IsGood v.rows v.learned = subst (λ (w : Vtep). IsGood w.rows w.learned) (sym c.self.view_is) c.requires.good in
    let own : c.own_address-own.result ≡ own_ip v.rows = search rules in
    let change : c.in-Ok.kept.change ≡ changes v.rows c.commit.new.database.current = ran_change v c.begin.new.self c.transact_on.new.database c.in_ok-ops.ops (view c.args.params) c.own_address-own.result good c.in_ok-ops.ensures c.begin.ensures c.in_ok-outcome.ensures.rows own c.commit.new.database.current c.in-Ok.kept.gone c.in-Ok.ensures.kept c.in-Ok.kept.change c.in-Ok.ensures.change in
    let is = kept_is v c.begin.new.self c.transact_on.new.database c.in_ok-ops.ops (view c.args.params) c.own_address-own.result good c.in_ok-ops.ensures c.begin.ensures c.in_ok-outcome.ensures.rows own c.in_ok-outcome.outcome.failed c.in_ok-outcome.ensures.failed (map seen c.in_ok-outcome.outcome.results) c.in_ok-outcome.ensures.results c.commit.new.database.current c.in-Ok.kept.gone c.if-outcome.false c.in-Ok.ensures.kept in
    result_so c.finish-in-Ok.result (finished (map seen c.in_ok-outcome.outcome.results) None) (transacted c.args.self.now (means (ops_in (view c.args.params)) c.args.self.now.rows)).result
    (sym (ap (λ (d : Done). d.result) is) ∙ ap (λ (w : Vtep). (transacted w (means (ops_in (view c.args.params)) w.rows)).result) c.self.view_is) c.finish-in-Ok.ensures

pub returns-in-Ok-clause-good : goal.returns-in-Ok-clause-good
returns-in-Ok-clause-good g c =
    let v : Vtep = the_view c.self.inside in
    let good : IsGood v.rows v.learned = subst (λ (w : Vtep). IsGood w.rows w.learned) (sym c.self.view_is) c.requires.good in
    let own : c.own_address-own.result ≡ own_ip v.rows = search rules in
    if_ok c.finish-in-Ok.result (subst (λ (w : Vtep). IsGood w.rows w.learned) (sym c.in_ok-conclude-in-Ok.ensures.left) (ran_good v c.begin.new.self c.transact_on.new.database c.in_ok-ops.ops (view c.args.params) c.own_address-own.result good c.in_ok-ops.ensures c.begin.ensures c.in_ok-outcome.ensures.rows own c.commit.new.database.current c.in-Ok.kept.gone c.in-Ok.ensures.kept))

pub returns-in-Ok-clause-fib : goal.returns-in-Ok-clause-fib
returns-in-Ok-clause-fib g c =
    let v : Vtep = the_view c.self.inside in
    let good : IsGood v.rows v.learned = subst (λ (w : Vtep). IsGood w.rows w.learned) (sym c.self.view_is) c.requires.good in
    let own : c.own_address-own.result ≡ own_ip v.rows = search rules in
    let change : c.in-Ok.kept.change ≡ changes v.rows c.commit.new.database.current = ran_change v c.begin.new.self c.transact_on.new.database c.in_ok-ops.ops (view c.args.params) c.own_address-own.result good c.in_ok-ops.ensures c.begin.ensures c.in_ok-outcome.ensures.rows own c.commit.new.database.current c.in-Ok.kept.gone c.in-Ok.ensures.kept c.in-Ok.kept.change c.in-Ok.ensures.change in
    let is = kept_is v c.begin.new.self c.transact_on.new.database c.in_ok-ops.ops (view c.args.params) c.own_address-own.result good c.in_ok-ops.ensures c.begin.ensures c.in_ok-outcome.ensures.rows own c.in_ok-outcome.outcome.failed c.in_ok-outcome.ensures.failed (map seen c.in_ok-outcome.outcome.results) c.in_ok-outcome.ensures.results c.commit.new.database.current c.in-Ok.kept.gone c.if-outcome.false c.in-Ok.ensures.kept in
    if_ok c.finish-in-Ok.result (c.in_ok-conclude-in-Ok.ensures.fib v.rows good change (c.requires.fib ∙ ap (λ (w : Vtep). fib_of w.rows w.learned) (sym c.self.view_is)))

pub returns-in-Ok-clause-plain : goal.returns-in-Ok-clause-plain
returns-in-Ok-clause-plain g c =
    plain_so c.finish-in-Ok.result (finished (map seen c.in_ok-outcome.outcome.results) None) (ap (λ rs. has_float (finished rs None)) c.in_ok-outcome.ensures.results ∙ plain_finished c.in_ok-ops.ops c.begin.new.self.current None) c.finish-in-Ok.ensures

pub returns-in-Err-Broken-clause-left : goal.returns-in-Err-Broken-clause-left
returns-in-Err-Broken-clause-left g c =
    let v : Vtep = the_view c.self.inside in
    let good : IsGood v.rows v.learned = subst (λ (w : Vtep). IsGood w.rows w.learned) (sym c.self.view_is) c.requires.good in
    let own : c.own_address-own.result ≡ own_ip v.rows = search rules in
    let broken = rw c.in-Err-Broken.field-0-is at c.in-Err-Broken.ensures.broken in
    let rows : c.commit.new.database.current ≡ v.rows = ran_back v c.begin.new.self c.transact_on.new.database c.in_ok-ops.ops (view c.args.params) c.own_address-own.result good c.in_ok-ops.ensures c.begin.ensures c.in_ok-outcome.ensures.rows own c.commit.new.database.current broken.1 in
    let is = broken_is v c.begin.new.self c.transact_on.new.database c.in_ok-ops.ops (view c.args.params) c.own_address-own.result good c.in_ok-ops.ensures c.begin.ensures c.in_ok-outcome.ensures.rows own c.in_ok-outcome.outcome.failed c.in_ok-outcome.ensures.failed (map seen c.in_ok-outcome.outcome.results) c.in_ok-outcome.ensures.results c.in-Err-Broken.rule c.if-outcome.false broken.0 in
    if_ok c.finish-in-Err-Broken.result ((λ i. record v { rows = rows i }) ∙ sym (ap (λ (d : Done). d.vtep) is) ∙ ap (λ (w : Vtep). (transacted w (means (ops_in (view c.args.params)) w.rows)).vtep) c.self.view_is)

pub returns-in-Err-Broken-clause-before : goal.returns-in-Err-Broken-clause-before
returns-in-Err-Broken-clause-before g c =
    let v : Vtep = the_view c.self.inside in
    let good : IsGood v.rows v.learned = subst (λ (w : Vtep). IsGood w.rows w.learned) (sym c.self.view_is) c.requires.good in
    let own : c.own_address-own.result ≡ own_ip v.rows = search rules in
    let broken = rw c.in-Err-Broken.field-0-is at c.in-Err-Broken.ensures.broken in
    let rows : c.commit.new.database.current ≡ v.rows = ran_back v c.begin.new.self c.transact_on.new.database c.in_ok-ops.ops (view c.args.params) c.own_address-own.result good c.in_ok-ops.ensures c.begin.ensures c.in_ok-outcome.ensures.rows own c.commit.new.database.current broken.1 in
    let is = broken_is v c.begin.new.self c.transact_on.new.database c.in_ok-ops.ops (view c.args.params) c.own_address-own.result good c.in_ok-ops.ensures c.begin.ensures c.in_ok-outcome.ensures.rows own c.in_ok-outcome.outcome.failed c.in_ok-outcome.ensures.failed (map seen c.in_ok-outcome.outcome.results) c.in_ok-outcome.ensures.results c.in-Err-Broken.rule c.if-outcome.false broken.0 in
    if_ok c.finish-in-Err-Broken.result
    (sym (append-nil c.args.sends.now) ∙ ap (λ (d : Done). c.args.sends.now ++ d.before) (sym is) ∙ ap (λ (w : Vtep). c.args.sends.now ++ (transacted w (means (ops_in (view c.args.params)) w.rows)).before) c.self.view_is)

pub returns-in-Err-Broken-clause-result : goal.returns-in-Err-Broken-clause-result
returns-in-Err-Broken-clause-result g c =
    let v : Vtep = the_view c.self.inside in
    let good : IsGood v.rows v.learned = subst (λ (w : Vtep). IsGood w.rows w.learned) (sym c.self.view_is) c.requires.good in
    let own : c.own_address-own.result ≡ own_ip v.rows = search rules in
    let broken = rw c.in-Err-Broken.field-0-is at c.in-Err-Broken.ensures.broken in
    let rows : c.commit.new.database.current ≡ v.rows = ran_back v c.begin.new.self c.transact_on.new.database c.in_ok-ops.ops (view c.args.params) c.own_address-own.result good c.in_ok-ops.ensures c.begin.ensures c.in_ok-outcome.ensures.rows own c.commit.new.database.current broken.1 in
    let is = broken_is v c.begin.new.self c.transact_on.new.database c.in_ok-ops.ops (view c.args.params) c.own_address-own.result good c.in_ok-ops.ensures c.begin.ensures c.in_ok-outcome.ensures.rows own c.in_ok-outcome.outcome.failed c.in_ok-outcome.ensures.failed (map seen c.in_ok-outcome.outcome.results) c.in_ok-outcome.ensures.results c.in-Err-Broken.rule c.if-outcome.false broken.0 in
    result_so c.finish-in-Err-Broken.result (finished (map seen c.in_ok-outcome.outcome.results) (Some c.in-Err-Broken.rule)) (transacted c.args.self.now (means (ops_in (view c.args.params)) c.args.self.now.rows)).result
    (sym (ap (λ (d : Done). d.result) is) ∙ ap (λ (w : Vtep). (transacted w (means (ops_in (view c.args.params)) w.rows)).result) c.self.view_is) c.finish-in-Err-Broken.ensures

pub returns-in-Err-Broken-clause-fib : goal.returns-in-Err-Broken-clause-fib
returns-in-Err-Broken-clause-fib g c =
    let v : Vtep = the_view c.self.inside in
    let good : IsGood v.rows v.learned = subst (λ (w : Vtep). IsGood w.rows w.learned) (sym c.self.view_is) c.requires.good in
    let own : c.own_address-own.result ≡ own_ip v.rows = search rules in
    let broken = rw c.in-Err-Broken.field-0-is at c.in-Err-Broken.ensures.broken in
    let rows : c.commit.new.database.current ≡ v.rows = ran_back v c.begin.new.self c.transact_on.new.database c.in_ok-ops.ops (view c.args.params) c.own_address-own.result good c.in_ok-ops.ensures c.begin.ensures c.in_ok-outcome.ensures.rows own c.commit.new.database.current broken.1 in
    let is = broken_is v c.begin.new.self c.transact_on.new.database c.in_ok-ops.ops (view c.args.params) c.own_address-own.result good c.in_ok-ops.ensures c.begin.ensures c.in_ok-outcome.ensures.rows own c.in_ok-outcome.outcome.failed c.in_ok-outcome.ensures.failed (map seen c.in_ok-outcome.outcome.results) c.in_ok-outcome.ensures.results c.in-Err-Broken.rule c.if-outcome.false broken.0 in
    if_ok c.finish-in-Err-Broken.result (c.requires.fib ∙ ap (λ (w : Vtep). fib_of w.rows w.learned) (sym c.self.view_is) ∙ ap (λ r. fib_of r v.learned) (sym rows))

pub returns-in-Err-Broken-clause-plain : goal.returns-in-Err-Broken-clause-plain
returns-in-Err-Broken-clause-plain g c =
    plain_so c.finish-in-Err-Broken.result (finished (map seen c.in_ok-outcome.outcome.results) (Some c.in-Err-Broken.rule)) (ap (λ rs. has_float (finished rs (Some c.in-Err-Broken.rule))) c.in_ok-outcome.ensures.results ∙ plain_finished c.in_ok-ops.ops c.begin.new.self.current (Some c.in-Err-Broken.rule)) c.finish-in-Err-Broken.ensures
