use Rattle.rpc_framing.proofs.Whole.{ok_comes, ok_waits, ok_shorter, ok_plain, ok_told}
use Rattle.rpc_framing.proofs.framer.Framer.next.Goals as goal

pub returns-clause-comes : goal.returns-clause-comes
returns-clause-comes c = ok_comes c.args.self.now c.take.new.self c.take.result c.take.ensures.ok

pub returns-clause-waits : goal.returns-clause-waits
returns-clause-waits c = ok_waits c.args.self.now c.take.new.self c.take.result c.take.ensures.ok

pub returns-clause-shorter : goal.returns-clause-shorter
returns-clause-shorter c = ok_shorter c.args.self.now c.take.new.self c.take.result c.take.ensures.ok

pub returns-clause-plain : goal.returns-clause-plain
returns-clause-plain c = ok_plain c.args.self.now c.take.new.self c.take.result c.take.ensures.ok

pub returns-clause-told : goal.returns-clause-told
returns-clause-told c = ok_told c.args.self.now c.take.new.self c.take.result c.take.ensures.ok
