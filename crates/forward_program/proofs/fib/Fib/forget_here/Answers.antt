use Rattle.std.proofs.Common.{◌≡◌, ℕ, Option, Some, OnOk, sym, subst}
use Rattle.forward_program.specs.Hosts.{forgotten_by}
use Rattle.forward_program.specs.declared.held.Held.TheVariants as held
use Rattle.forward_program.proofs.fib.Fib.forget_here.Goals as goal

pub returns-clause-ok : goal.returns-clause-ok
returns-clause-ok g c here =
    subst (λ (there : Option ℕ). OnOk c.put.result (c.put.new.self.entries ≡ forgotten_by c.args.self.now.entries c.args.spot (Some (held.Host (Some here) there)))) (sym c.in-Some.is) c.put.ensures.ok
