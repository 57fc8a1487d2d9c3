use Rattle.std.proofs.Common.{[], ◌∷◌, ◌++◌, refl, sym, ap, subst, ◌∙◌}
use Rattle.vtep_rows.specs.Database.{Versions}
use Rattle.vtep_rows.proofs.TouchedCollected.{if_ok}
use Rattle.local_tables.specs.Followed.{followed}
use Rattle.local_tables.specs.Local.{IsLearning}
use Rattle.vtep_gateway.proofs.Led.{rows_led, change_led}
use Rattle.vtep_gateway.proofs.learning.commit_new.Goals as goal

pub returns-in-Ok-clause-rows : goal.returns-in-Ok-clause-rows
returns-in-Ok-clause-rows c = λ known is.
    let new = c.args.new.now in
    let led = c.in-Ok.ensures.rows known new (subst (λ (v : Versions). IsLearning c.args.own v.current known new) (sym c.begin.ensures) is) refl refl in
    if_ok c.commit.result
    (rows_led c.add_address.new.database c.commit.new.self (followed c.args.own c.args.database.now.current c.args.database.now.current (known ++ new ∷ [])).rows c.commit.ensures.left
    (ap (λ (v : Versions). v.current) led ∙ ap (λ (v : Versions). (followed c.args.own v.current v.current (known ++ new ∷ [])).rows) c.begin.ensures))

pub returns-in-Ok-clause-change : goal.returns-in-Ok-clause-change
returns-in-Ok-clause-change c = λ known is.
    let new = c.args.new.now in
    let r = c.begin.new.self.current in
    change_led c.args.database.now c.begin.new.self c.add_address.new.database c.commit.new.self (followed c.args.own r r (known ++ new ∷ [])).rows c.commit.result c.begin.ensures
    (c.in-Ok.ensures.rows known new (subst (λ (v : Versions). IsLearning c.args.own v.current known new) (sym c.begin.ensures) is) refl refl) c.commit.ensures.left c.commit.ensures.change
