use Rattle.std.proofs.Common.{◌≡◌, drop}
use Rattle.std.specs.List.{flat_map}
use Rattle.forward_program.specs.Follows.{remote_addresses, asked}
use Rattle.forward_program.proofs.fib.Fib.ask_rows.Given as goal

abbrev pub invariant-change : goal.invariant-change
invariant-change g l = record {
  done : asked l.learned.entries (flat_map remote_addresses (drop l.row-index l.change)) l.self.entries ≡ asked l.learned.entries (flat_map remote_addresses l.change) l.initial.self.entries;
  same : l.self.broken ≡ l.initial.self.broken;
}
