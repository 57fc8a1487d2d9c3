use Rattle.vtep_base.proofs.Pieces.{from_start, none_taken}
use Rattle.vtep_base.proofs.memory.MemorySource.new.Goals as goal

pub returns-clause-left : goal.returns-clause-left
returns-clause-left c = from_start c.args.pieces

pub returns-clause-taken : goal.returns-clause-taken
returns-clause-taken c = none_taken c.args.pieces
