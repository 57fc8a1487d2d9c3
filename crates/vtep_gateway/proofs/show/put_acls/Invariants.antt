use Rattle.std.proofs.Common.{◌≡◌, ◌++◌, take}
use Rattle.std.specs.List.{flat_map}
use Rattle.vtep_gateway.specs.Show.{acl_text}
use Rattle.vtep_gateway.proofs.show.put_acls.Given as goal

abbrev pub invariant-acls : goal.invariant-acls
invariant-acls l = l.out ≡ l.fn.out ++ flat_map (acl_text l.rows) (take l.acl-index l.acls)
