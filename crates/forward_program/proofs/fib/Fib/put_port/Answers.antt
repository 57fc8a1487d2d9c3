use Rattle.std.proofs.Common.{◌≡◌, OnOk, subst, List}
use Rattle.vtep_rows.specs.Row.{put_all}
use Rattle.forward_program.specs.Shown.{Entry}
use Rattle.forward_program.proofs.PortEntries.{port_is}
use Rattle.forward_program.proofs.fib.Fib.put_port.Goals as goal

pub returns-clause-ok : goal.returns-clause-ok
returns-clause-ok g c own =
    subst (λ (es : List Entry). OnOk c.put_pairs.result (c.put_pairs.new.self.entries ≡ put_all c.args.self.now.entries es))
    (port_is c.args.row.now c.in-Some.port _ c.in-Some.ensures c.vlan_pairs.ensures.pairs c.vlan_pairs.ensures.ordered) c.put_pairs.ensures.ok
