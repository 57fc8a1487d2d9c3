use Rattle.std.proofs.Common.{sym, ap, subst, ◌∙◌}
use Rattle.vtep_rows.specs.Database.{Versions}
use Rattle.vtep_rows.proofs.TouchedCollected.{if_ok}
use Rattle.local_tables.specs.Followed.{followed}
use Rattle.local_tables.specs.Following.{without_all}
use Rattle.local_tables.specs.Local.{IsChanged}
use Rattle.vtep_gateway.proofs.Led.{rows_led, change_led}
use Rattle.vtep_gateway.proofs.learning.commit_aged.Goals as goal

pub returns-clause-rows : goal.returns-clause-rows
returns-clause-rows c = λ own known is listed.
    let gone = c.args.gone.now in
    let led = c.in_ok-forget.ensures.rows own known (subst (λ (v : Versions). IsChanged own v.current v.current known) (sym c.begin.ensures) is) listed in
    if_ok c.commit.result
    (rows_led c.forget.new.database c.commit.new.self (followed own c.args.database.now.current c.args.database.now.current (without_all gone known)).rows c.commit.ensures.left
    (ap (λ (v : Versions). v.current) led ∙ ap (λ (v : Versions). (followed own v.current v.current (without_all gone known)).rows) c.begin.ensures))

pub returns-clause-change : goal.returns-clause-change
returns-clause-change c = λ own known is listed.
    let gone = c.args.gone.now in
    let r = c.begin.new.self.current in
    change_led c.args.database.now c.begin.new.self c.forget.new.database c.commit.new.self (followed own r r (without_all gone known)).rows c.commit.result c.begin.ensures
    (c.in_ok-forget.ensures.rows own known (subst (λ (v : Versions). IsChanged own v.current v.current known) (sym c.begin.ensures) is) listed) c.commit.ensures.left c.commit.ensures.change
