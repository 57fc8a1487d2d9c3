use Rattle.vtep_rows.proofs.TallyLaws.{if_err}
use Rattle.forward_program.proofs.RoomLaws.{lacks_ports}
use Rattle.forward_program.proofs.fib.Fib.flood.Goals as goal

pub returns-in_err-flood_ports-clause-full : goal.returns-in_err-flood_ports-clause-full
returns-in_err-flood_ports-clause-full g c =
    if_err _ (lacks_ports c.args.self.now.entries c.args.switch c.args.out.now c.requires.ports c.in_err-flood_ports.ensures.full)
