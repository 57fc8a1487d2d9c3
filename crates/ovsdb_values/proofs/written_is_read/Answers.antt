use Rattle.ovsdb_values.proofs.ReadBack.{read_back}
use Rattle.ovsdb_values.proofs.written_is_read.Goals as goal

pub returns : goal.returns
returns c = λ shape datum. read_back shape datum
