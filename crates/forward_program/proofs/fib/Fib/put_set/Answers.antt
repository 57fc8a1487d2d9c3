use Rattle.std.proofs.Common.{◌≡◌, OnOk, subst, List, ℕ}
use Rattle.vtep_base.specs.Maps as maps
use Rattle.forward_program.specs.declared.spots.Spot.TheVariants as spot
use Rattle.forward_program.specs.declared.held.Held.TheVariants as held
use Rattle.forward_program.proofs.fib.Fib.put_set.Goals as goal

pub returns-clause-ok : goal.returns-clause-ok
returns-clause-ok g c own =
    subst (λ (xs : List ℕ). OnOk c.put.result (c.put.new.self.entries ≡ maps.insert c.args.self.now.entries (spot.Set c.args.id) (held.Members xs)))
    c.in_ok-locators.ensures c.put.ensures.ok
