use Rattle.std.proofs.Common.{◌≡◌, OnOk, subst}
use Rattle.vtep_base.specs.Maps as maps
use Rattle.forward_program.specs.Spots.{Entries}
use Rattle.forward_program.specs.declared.spots.Spot.TheVariants as spot
use Rattle.forward_program.specs.declared.spots.Part.TheVariants as part
use Rattle.forward_program.specs.declared.held.Held.TheVariants as held
use Rattle.forward_program.proofs.fib.Fib.put_binding.Goals as goal

pub returns-clause-ok : goal.returns-clause-ok
returns-clause-ok g c =
    subst (λ (m : Entries). OnOk c.put_new-2.result (c.put_new-2.new.self.entries ≡ maps.insert m (spot.Switch c.args.bound.1 (part.Member c.args.port c.args.bound.0)) (held.Lists c.args.lists)))
    c.in_ok-put_new.ensures.ok c.put_new-2.ensures.ok
