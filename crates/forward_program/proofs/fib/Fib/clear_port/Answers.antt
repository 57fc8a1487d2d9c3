use Rattle.std.proofs.Common.{subst, List}
use Rattle.std.specs.Option.{option_map}
use Rattle.forward_program.specs.Shown.{Entry}
use Rattle.forward_program.specs.Follows.{places, port_places, IsCleared}
use Rattle.forward_program.proofs.PortEntries.{port_is}
use Rattle.forward_program.proofs.fib.Fib.clear_port.Goals as goal

pub returns-clause-cleared : goal.returns-clause-cleared
returns-clause-cleared g c own id =
    subst (λ (es : List Entry). IsCleared c.args.self.now.entries c.clear_pairs.new.self.entries (places es) (port_places (option_map (λ r. r.now) c.args.new)))
    (port_is c.args.old.now c.in-Some.port _ c.in-Some.ensures c.vlan_pairs.ensures.pairs c.vlan_pairs.ensures.ordered) (c.clear_pairs.ensures.cleared c.args.old.now)
