use Rattle.std.proofs.Common.{◌≡◌}
use Rattle.std.specs.Prelude.{is_some}
use Rattle.vtep_gateway.specs.Ports.{port_named}
use Rattle.vtep_gateway.proofs.PortNames.{among}
use Rattle.vtep_gateway.proofs.ports.has_port.Given as goal

abbrev pub invariant-ports : goal.invariant-ports
invariant-ports l = among l.rows l.name l.id-iterator ≡ is_some (port_named l.rows l.name)
