use Rattle.std.proofs.Common.{◌≡◌, ◌++◌, take}
use Rattle.std.specs.List.{flat_map}
use Rattle.vtep_gateway.specs.Show.{ip_text}
use Rattle.vtep_gateway.proofs.show.put_ips.Given as goal

abbrev pub invariant-ips : goal.invariant-ips
invariant-ips l = l.out ≡ l.fn.out ++ flat_map ip_text (take l.ip-index l.ips)
