use Rattle.std.proofs.Common.{◌≡◌, ◌≤◌, ◌+◌, ◌++◌, length}
use Rattle.forward_program.specs.Joins.{members_from}
use Rattle.forward_program.specs.Hop.{let_out, but, ways_at}
use Rattle.forward_program.specs.Rooms.{KeepsRoom}
use Rattle.forward_program.proofs.Buts.{listed}
use Rattle.forward_program.proofs.fib.Fib.flood_ports.Given as goal

abbrev pub invariant-members : goal.invariant-members
invariant-members g l = record {
  ports : l.out.ports ++ but l.from (let_out (ways_at l.self.entries) l.headers (listed (members_from l.switch l.spot-iterator)))
      ≡ l.initial.out.ports ++ but l.from (let_out (ways_at l.self.entries) l.headers ((ways_at l.self.entries).ports l.switch));
  addresses : l.out.addresses ≡ l.initial.out.addresses;
  vni : l.out.vni ≡ l.initial.out.vni;
  kept : KeepsRoom l.initial.out l.out;
  count : length l.out.ports + length (members_from l.switch l.spot-iterator) ≤ length l.initial.out.ports + length ((ways_at l.self.entries).ports l.switch);
}
