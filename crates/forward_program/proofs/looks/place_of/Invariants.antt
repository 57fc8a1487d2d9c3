use Rattle.std.proofs.Common.{◌≡◌, ◌≤◌, ◌-◌, ◌++◌, length, take, drop}
use Rattle.std.specs.Ordering.{nat_cmp}
use Rattle.std.specs.BTreeSet.{insert_key}
use Rattle.forward_program.proofs.looks.place_of.Given as goal

abbrev pub invariant-addresses : goal.invariant-addresses
invariant-addresses l = record {
  within : l.i ≤ length l.addresses;
  placed : insert_key nat_cmp l.addresses l.ip ≡ take l.i l.addresses ++ insert_key nat_cmp (drop l.i l.addresses) l.ip;
}

abbrev pub decreases-addresses : goal.decreases-addresses
decreases-addresses l = length l.addresses - l.i
