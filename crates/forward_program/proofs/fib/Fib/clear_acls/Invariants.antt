use Rattle.std.proofs.Common.{◌≡◌, drop}
use Rattle.std.specs.List.{filter_map}
use Rattle.forward_program.specs.Follows.{gone_acl, without}
use Rattle.forward_program.proofs.fib.Fib.clear_acls.Given as goal

abbrev pub invariant-change : goal.invariant-change
invariant-change g l = record {
  entries : without l.self.entries (filter_map gone_acl (drop l.row-index l.change)) ≡ without l.initial.self.entries (filter_map gone_acl l.change);
  same : l.self.broken ≡ l.initial.self.broken;
}
