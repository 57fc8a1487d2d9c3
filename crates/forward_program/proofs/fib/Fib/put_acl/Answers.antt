use Rattle.std.proofs.Common.{◌≡◌, List, OnOk, subst}
use Rattle.vtep_base.specs.Maps as maps
use Rattle.acl_rules.specs.declared.entry.Entry.{Entry}
use Rattle.forward_program.specs.declared.spots.Spot.TheVariants as spot
use Rattle.forward_program.specs.declared.held.Held.TheVariants as held
use Rattle.forward_program.proofs.fib.Fib.put_acl.Goals as goal

pub returns-clause-ok : goal.returns-clause-ok
returns-clause-ok g c =
    subst (λ (es : List Entry). OnOk c.put.result (c.put.new.self.entries ≡ maps.insert c.args.self.now.entries (spot.Acl c.args.id) (held.Rules es))) c.in_ok-rules.ensures c.put.ensures.ok
