use Rattle.std.proofs.Common.{List, ap, ◌∙◌}
use Rattle.std.specs.List.{flat_map}
use Rattle.std.specs.Ordering.{nat_cmp}
use Rattle.serde_json.specs.Written.{has_float}
use Rattle.json_notation.specs.Json.{list}
use Rattle.vtep_base.specs.Reading.{Bytes}
use Rattle.fabric_world.specs.Installer.{Port, Flood, switches_in, acls_in, hosts_of, floods_at, ascending}
use Rattle.vtep_fabric.proofs.NoFraction.{plain_operations}
use Rattle.vtep_fabric.proofs.operations.request_for.Goals as goal

pub request_text-requires : goal.request_text-requires
request_text-requires c =
    let i = c.args.intention.now in
    let ports : List Port = c.in_ok-ports.ports in
    let switches : List Bytes = switches_in c.as_slice.result.now in
    let floods : List Flood = floods_at (hosts_of i c.args.peers.now) c.args.peers.now c.args.gateway switches in
    ap (λ ds. has_float (list ds)) c.in_ok-operations.ensures ∙ plain_operations i c.as_slice.result.now switches (acls_in c.as_slice.result.now) floods (ascending nat_cmp (flat_map (λ f. f.1) floods))
