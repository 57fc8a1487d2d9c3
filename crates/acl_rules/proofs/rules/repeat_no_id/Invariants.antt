use Rattle.std.proofs.Common.{◌≡◌, drop}
use Rattle.acl_rules.specs.Permits.{repeat_no_id}
use Rattle.acl_rules.proofs.rules.repeat_no_id.Given as goal

abbrev pub invariant-entries : goal.invariant-entries
invariant-entries l = repeat_no_id (drop l.place l.entries) ≡ repeat_no_id l.entries
