use Rattle.std.proofs.Common.{◌≡◌, map}
use Rattle.vtep_base.specs.Maps as maps
use Rattle.vtep_rows.specs.Row.{put_all}
use Rattle.vtep_fabric.proofs.Installed.{found}
use Rattle.vtep_fabric.proofs.settling.peers_in.Given as goal

abbrev pub invariant-gateways : goal.invariant-gateways
invariant-gateways l = put_all l.peers (map found l.name-iterator) ≡ put_all maps.empty (map found l.gateways.entries)
