use Rattle.fabric_replay.proofs.SoFar.{plays_piece}
use Rattle.fabric_replay.proofs.replay.play_piece.Goals as goal

pub returns-clause-plays : goal.returns-clause-plays
returns-clause-plays g c =
    plays_piece (g.R.Reader.meaning c.args.reader.now) (g.R.Reader.meaning c.feed.new.self) c.args.piece.now c.clear.new.self c.feed.new.out _ _ _ c.put_played.result
    c.clear.ensures c.in-Ok.ensures.feeds c.stage.ensures c.put_played.ensures.ends
