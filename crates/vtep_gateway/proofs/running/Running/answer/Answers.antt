use Rattle.vtep_gateway.proofs.running.Running.answer.Goals as goal

pub returns-in-Bytes-clause-ok : goal.returns-in-Bytes-clause-ok
returns-in-Bytes-clause-ok g c = rw c.in-Bytes.is c.on_bytes.ensures.ok
