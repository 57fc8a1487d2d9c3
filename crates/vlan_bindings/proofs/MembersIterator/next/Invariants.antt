use Rattle.std.proofs.Common.{◌≡◌, length}
use Rattle.vlan_bindings.specs.Places.{places_of}
use Rattle.vlan_bindings.proofs.MembersIterator.next.Given as goal

abbrev pub invariant-others : goal.invariant-others
invariant-others l = record {
  left : places_of l.self.switch l.self.rest ≡ places_of l.fn.self.switch l.fn.self.rest;
  same : l.self.switch ≡ l.fn.self.switch;
}

abbrev pub decreases-others : goal.decreases-others
decreases-others l = length l.self.rest
