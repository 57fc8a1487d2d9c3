use Rattle.local_tables.proofs.Others.{names_no_local}
use Rattle.local_tables.proofs.laws.no_row_names_local_rows.Goals as goal

pub returns : goal.returns
returns c = names_no_local
