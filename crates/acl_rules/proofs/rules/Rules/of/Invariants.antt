use Rattle.std.proofs.Common.{◌≡◌, drop}
use Rattle.acl_rules.specs.Permits.{in_order}
use Rattle.acl_rules.proofs.Placed.{place_all}
use Rattle.acl_rules.proofs.rules.Rules.of.Given as goal

abbrev pub invariant-entries : goal.invariant-entries
invariant-entries l = place_all l.sorted.items (drop l.entry-index l.entries) ≡ in_order l.entries
