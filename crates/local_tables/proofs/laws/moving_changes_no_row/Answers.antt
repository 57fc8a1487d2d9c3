use Rattle.local_tables.proofs.MovedLocal.{moved_rows, moved_list, moved_local}
use Rattle.local_tables.proofs.laws.moving_changes_no_row.Goals as goal

pub returns : goal.returns
returns c = λ own r l new e is known bound. (
  λ i. record { rows = moved_rows own r l new e is known bound i; learned = moved_list own r l new e is known bound i },
  moved_local own r l new e is known bound,
)
