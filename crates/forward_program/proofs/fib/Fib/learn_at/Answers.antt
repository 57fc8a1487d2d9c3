use Rattle.std.proofs.Common.{◌≡◌, ℕ, Option, Some, OnOk, subst}
use Rattle.vtep_base.specs.Maps as maps
use Rattle.forward_program.specs.declared.held.Held.TheVariants as held
use Rattle.forward_program.proofs.fib.Fib.learn_at.Goals as goal

pub returns-clause-ok : goal.returns-clause-ok
returns-clause-ok g c =
    subst (λ (there : Option ℕ). OnOk c.put.result (c.put.new.self.entries ≡ maps.insert c.args.self.now.entries c.args.spot (held.Host (Some c.args.port) there))) c.there.ensures c.put.ensures.ok
