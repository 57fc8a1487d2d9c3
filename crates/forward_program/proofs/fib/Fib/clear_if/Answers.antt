use Rattle.std.proofs.Common.{sym, subst}
use Rattle.std.specs.Option.{option_to_list}
use Rattle.forward_program.specs.Follows.{both_of, IsCleared}
use Rattle.forward_program.proofs.fib.Fib.clear_if.Goals as goal

pub returns-clause-cleared : goal.returns-clause-cleared
returns-clause-cleared g c =
    subst (λ o. IsCleared c.args.self.now.entries c.clear_spot.new.self.entries (option_to_list o) (both_of c.args.new.now)) (sym c.in-Some.is)
    (c.clear_spot.ensures.cleared (both_of c.args.new.now) c.stays.ensures)
