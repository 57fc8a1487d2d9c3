use Rattle.local_tables.proofs.AgedLocal.{aged_local}
use Rattle.local_tables.proofs.laws.ageing_keeps_local.Goals as goal

pub returns : goal.returns
returns c = λ own r l gone is listed small. aged_local own r l is gone listed small
