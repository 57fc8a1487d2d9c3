use Rattle.vtep_rows.proofs.SoundLaws.{is_sound}
use Rattle.vectors.proofs.facts.applied.Goals as goal

pub apply-requires-clause-sound : goal.apply-requires-clause-sound
apply-requires-clause-sound c = is_sound c.args.known.now.rows c.in-Ok.ensures
