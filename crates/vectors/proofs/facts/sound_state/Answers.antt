use Rattle.vtep_rows.proofs.SoundLaws.{is_sound}
use Rattle.vectors.proofs.facts.sound_state.Goals as goal

pub build-requires-clause-sound : goal.build-requires-clause-sound
build-requires-clause-sound c = is_sound c.args.known.now.rows c.in-Ok.ensures
