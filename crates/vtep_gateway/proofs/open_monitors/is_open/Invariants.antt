use Rattle.std.proofs.Common.{◌≡◌, drop}
use Rattle.vtep_gateway.specs.Monitors.{is_open}
use Rattle.vtep_gateway.proofs.open_monitors.is_open.Given as goal

abbrev pub invariant-monitors : goal.invariant-monitors
invariant-monitors l = is_open (drop l.monitor-index l.monitors) l.name ≡ is_open l.monitors l.name
