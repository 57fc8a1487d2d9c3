use Rattle.std.proofs.Common.{◌≡◌, ℕ, ◌++◌, sym, ap, subst, ◌∙◌}
use Rattle.vtep_rows.specs.Changes.{changes}
use Rattle.mac_learning.specs.Learning.{Learning, old_at, kept_at}
use Rattle.forward_program.specs.Readings.{own_ip}
use Rattle.vtep_gateway.specs.Vtep.{Vtep}
use Rattle.vtep_gateway.specs.Monitors.{told_all}
use Rattle.vtep_gateway.specs.Learning.{aged}
use Rattle.vtep_gateway.specs.Good.{IsGood}
use Rattle.vtep_gateway.specs.Ready.{fib_of}
use Rattle.vtep_gateway.specs.contracts.vtep.Vtep.{the_view}
use Rattle.vtep_gateway.proofs.Seeing.{aged_rows, rows_aged, change_aged, good_aged, aged_is, moves_aged}
use Rattle.vtep_gateway.proofs.vtep.Vtep.age.Goals as goal

pub publish-requires-clause-good : goal.publish-requires-clause-good
publish-requires-clause-good g c =
    let v : Vtep = the_view c.self.inside in
    let good : IsGood v.rows v.learned = subst (λ (w : Vtep). IsGood w.rows w.learned) (sym c.self.view_is) c.requires.good in
    let now : ℕ = c.saturating_add-self-inside.result in
    let slice : c.as_slice.result.now ≡ old_at now v.learned = c.as_slice.ensures ∙ c.in_ok-gone.ensures.aged in
    let rows : c.commit_aged.new.database.current ≡ aged_rows v good now = rows_aged v good now c.as_slice.result.now c.commit_aged.new.database.current slice (c.in_ok-change.ensures.rows (own_ip v.rows) v.learned) in
    let list : c.age.new.self.entries ≡ kept_at now v.learned = ap (λ (k : Learning). k.entries) c.in_ok-gone.ensures.kept in
    good_aged v good now c.commit_aged.new.database.current c.age.new.self.entries rows list

pub returns-clause-good : goal.returns-clause-good
returns-clause-good g c =
    let v : Vtep = the_view c.self.inside in
    let good : IsGood v.rows v.learned = subst (λ (w : Vtep). IsGood w.rows w.learned) (sym c.self.view_is) c.requires.good in
    let now : ℕ = c.saturating_add-self-inside.result in
    let slice : c.as_slice.result.now ≡ old_at now v.learned = c.as_slice.ensures ∙ c.in_ok-gone.ensures.aged in
    let rows : c.commit_aged.new.database.current ≡ aged_rows v good now = rows_aged v good now c.as_slice.result.now c.commit_aged.new.database.current slice (c.in_ok-change.ensures.rows (own_ip v.rows) v.learned) in
    let list : c.age.new.self.entries ≡ kept_at now v.learned = ap (λ (k : Learning). k.entries) c.in_ok-gone.ensures.kept in
    good_aged v good now c.commit_aged.new.database.current c.age.new.self.entries rows list

pub returns-clause-left : goal.returns-clause-left
returns-clause-left g c =
    let v : Vtep = the_view c.self.inside in
    let good : IsGood v.rows v.learned = subst (λ (w : Vtep). IsGood w.rows w.learned) (sym c.self.view_is) c.requires.good in
    let now : ℕ = c.saturating_add-self-inside.result in
    let slice : c.as_slice.result.now ≡ old_at now v.learned = c.as_slice.ensures ∙ c.in_ok-gone.ensures.aged in
    let rows : c.commit_aged.new.database.current ≡ aged_rows v good now = rows_aged v good now c.as_slice.result.now c.commit_aged.new.database.current slice (c.in_ok-change.ensures.rows (own_ip v.rows) v.learned) in
    let list : c.age.new.self.entries ≡ kept_at now v.learned = ap (λ (k : Learning). k.entries) c.in_ok-gone.ensures.kept in
    let change : c.in_ok-change.change ≡ changes v.rows c.commit_aged.new.database.current =
    change_aged v good now c.as_slice.result.now (c.in_ok-change.change ≡ changes v.rows c.commit_aged.new.database.current) slice (c.in_ok-change.ensures.change (own_ip v.rows) v.learned) in
    ap (λ w. aged w c.args.seconds) (sym c.self.view_is)
    ∙ aged_is v good now c.args.seconds (record v { rows = c.commit_aged.new.database.current; learned = c.age.new.self.entries; clock = now }) c.publish.new.sends c.saturating_add-self-inside.ensures
    (λ i. record v { rows = rows i; learned = list i; clock = now })
    (c.in_ok-publish.ensures.told v.rows change ∙ ap (λ sends. sends ++ told_all v.rows c.commit_aged.new.database.current v.monitors) c.new-sends.ensures ∙ ap (λ r. told_all v.rows r v.monitors) rows)

pub returns-clause-fib : goal.returns-clause-fib
returns-clause-fib g c =
    let v : Vtep = the_view c.self.inside in
    let good : IsGood v.rows v.learned = subst (λ (w : Vtep). IsGood w.rows w.learned) (sym c.self.view_is) c.requires.good in
    let now : ℕ = c.saturating_add-self-inside.result in
    let slice : c.as_slice.result.now ≡ old_at now v.learned = c.as_slice.ensures ∙ c.in_ok-gone.ensures.aged in
    let rows : c.commit_aged.new.database.current ≡ aged_rows v good now = rows_aged v good now c.as_slice.result.now c.commit_aged.new.database.current slice (c.in_ok-change.ensures.rows (own_ip v.rows) v.learned) in
    let list : c.age.new.self.entries ≡ kept_at now v.learned = ap (λ (k : Learning). k.entries) c.in_ok-gone.ensures.kept in
    let change : c.in_ok-change.change ≡ changes v.rows c.commit_aged.new.database.current =
    change_aged v good now c.as_slice.result.now (c.in_ok-change.change ≡ changes v.rows c.commit_aged.new.database.current) slice (c.in_ok-change.ensures.change (own_ip v.rows) v.learned) in
    c.in_ok-publish.ensures.fib v.rows v.learned good change (moves_aged v good now c.age.new.self.entries c.as_slice-2.result.now list (c.as_slice-2.ensures ∙ c.in_ok-gone.ensures.aged))
    (c.requires.fib ∙ ap (λ (w : Vtep). fib_of w.rows w.learned) (sym c.self.view_is))
