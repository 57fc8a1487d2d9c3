use Rattle.std.proofs.Common.{◌∙◌, arith}
use Rattle.std.specs.Map.Iter.{deref_pair}
use Rattle.std.proofs.lemmas.Map.Iter.{rest_more}
use Rattle.forward_program.specs.Hop.{ways_at}
use Rattle.forward_program.proofs.Buts.{one_member, one_counted}
use Rattle.forward_program.proofs.fib.Fib.flood_ports.Goals as goal

pub members-preserved : goal.members-preserved
members-preserved g c =
    let left =
    rest_more deref_pair c.members.spot-iterator c.next.new.self c.next.result (c.in-Some.spot, c.in-Some.held) c.in-Some.is c.next.ensures.steps in
    record {
      ports =
          one_member (ways_at c.args.self.now.entries) c.args.headers.now c.args.from.now c.args.switch c.members.spot-iterator c.next.new.self (c.in-Some.spot.now, c.in-Some.held.now) c.of.result c.in-Member.port c.in-Member.vlan c.in-Member.lists
          c.members.out.ports c.push_listed.new.out.ports _ left
          c.of.ensures c.in-Member.is c.members.invariant.ports c.in_ok-push_listed-in-Member.ensures.ports;
      addresses = c.push_listed.ensures.addresses ∙ c.members.invariant.addresses;
      vni = c.push_listed.ensures.vni ∙ c.members.invariant.vni;
      kept = record { ports = omega (arith, c.push_listed.ensures.kept.ports, c.members.invariant.kept.ports); addresses = omega (arith, c.push_listed.ensures.kept.addresses, c.members.invariant.kept.addresses) };
      count =
          one_counted (ways_at c.args.self.now.entries) c.args.headers.now c.args.from.now c.args.switch c.members.spot-iterator c.next.new.self (c.in-Some.spot.now, c.in-Some.held.now) c.of.result c.in-Member.port c.in-Member.vlan c.in-Member.lists
          c.members.out.ports c.push_listed.new.out.ports _ left
          c.of.ensures c.in-Member.is c.in_ok-push_listed-in-Member.ensures.ports c.members.invariant.count;
    }
