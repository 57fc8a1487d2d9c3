use Rattle.std.proofs.Common.{sym}
use Rattle.fabric_world.specs.Script.{Played, play_rest}
use Rattle.fabric_replay.specs.Stages.{stage_of}
use Rattle.fabric_replay.proofs.Ends.{same_end}
use Rattle.fabric_replay.proofs.script.Script.close.Goals as goal

pub returns-clause-stage : goal.returns-clause-stage
returns-clause-stage c =
    let rest : Played = play_rest (stage_of c.args.self.now.stage) c.args.self.now.front.items in
    sym (same_end rest _ _ c.in_ok-play_rest.ensures.stage (c.end.ensures rest.text))
