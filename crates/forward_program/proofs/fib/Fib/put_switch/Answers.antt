use Rattle.forward_program.proofs.PortEntries.{switch_put}
use Rattle.forward_program.proofs.fib.Fib.put_switch.Goals as goal

pub returns-clause-ok : goal.returns-clause-ok
returns-clause-ok g c own =
    switch_put _ c.args.self.now.entries c.put.new.self.entries _ c.args.id c.args.row.now _ _ _ c.tunnel_key.ensures c.tunnel_key-2.ensures c.mode.ensures c.in_ok-put.ensures.ok c.put_vni.ensures.ok
