use Rattle.std.proofs.Common.{◌≡◌, ◌++◌, OnOk, subst}
use Rattle.forward_program.specs.Joins.{facts_of}
use Rattle.forward_program.specs.Shown.{shown}
use Rattle.vtep_gateway.specs.Gateway.{Held}
use Rattle.vtep_gateway.specs.Show.{show_text}
use Rattle.vtep_gateway.proofs.gateway.Gateway.show.Goals as goal

pub returns-clause-ok : goal.returns-clause-ok
returns-clause-ok g c =
    subst (λ (h : Held). OnOk c.show.result (c.show.new.out ≡ c.args.out.now ++ show_text h.state.vtep.name h.state.vtep.rows (facts_of (shown h.state.vtep.rows h.state.vtep.learned)))) c.self.view_is c.show.ensures.ok
