use Rattle.forward_program.specs.Readings.{own_ip}
use Rattle.local_tables.proofs.Accepted.{aged_kept}
use Rattle.vtep_gateway.proofs.Changing.{unchanged_changes}
use Rattle.vtep_gateway.proofs.PortsKept.{joins_kept, leaves_kept}
use Rattle.vtep_gateway.proofs.Settling.{name_short, seen_kept}
use Rattle.vtep_gateway.proofs.laws.other_commits_are_kept.Goals as goal

pub returns-clause-port_comes : goal.returns-clause-port_comes
returns-clause-port_comes c r l name good named free = joins_kept r name l good (name_short name named) free

pub returns-clause-port_goes : goal.returns-clause-port_goes
returns-clause-port_goes c r l id good = leaves_kept r id l good

pub returns-clause-learning : goal.returns-clause-learning
returns-clause-learning c v new good single bound room = seen_kept v new good single bound room

pub returns-clause-ageing : goal.returns-clause-ageing
returns-clause-ageing c r l now good = aged_kept (own_ip r) r l now (unchanged_changes r l good)
