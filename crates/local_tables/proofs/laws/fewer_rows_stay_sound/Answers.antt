use Rattle.local_tables.proofs.Collecting.{part_sound}
use Rattle.local_tables.proofs.laws.fewer_rows_stay_sound.Goals as goal

pub returns : goal.returns
returns c = part_sound
