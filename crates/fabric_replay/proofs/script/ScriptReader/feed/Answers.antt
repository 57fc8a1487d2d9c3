use Rattle.fabric_replay.specs.Stages.{stage_of}
use Rattle.fabric_replay.proofs.LinesOfPieces.{feeds_as}
use Rattle.fabric_replay.proofs.script.ScriptReader.feed.Goals as goal

pub returns-clause-feeds : goal.returns-clause-feeds
returns-clause-feeds c = feeds_as (stage_of c.args.self.now.stage) (stage_of c.take.new.self.stage) c.args.self.now.front.items c.take.new.self.front.items c.args.piece.now c.args.out.now c.take.new.out c.in_ok-take.ensures.feeds
