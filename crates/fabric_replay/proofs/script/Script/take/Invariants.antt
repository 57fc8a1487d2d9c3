use Rattle.std.proofs.Common.{◌≡◌, ◌+◌, ◌≤◌, ◌++◌, length}
use Rattle.fabric_world.specs.Text.{cut}
use Rattle.fabric_world.specs.Script.{play}
use Rattle.fabric_replay.specs.Stages.{stage_of, number_of}
use Rattle.fabric_replay.proofs.script.Script.take.Given as goal

abbrev pub invariant-lines : goal.invariant-lines
invariant-lines l = record {
  text : l.out ++ (play (stage_of l.self.stage) (cut l.self.front.items l.rest).0).text ≡ l.fn.out ++ (play (stage_of l.fn.self.stage) (cut l.fn.self.front.items l.fn.piece).0).text;
  stage : (play (stage_of l.self.stage) (cut l.self.front.items l.rest).0).stage ≡ (play (stage_of l.fn.self.stage) (cut l.fn.self.front.items l.fn.piece).0).stage;
  front : (cut l.self.front.items l.rest).1 ≡ (cut l.fn.self.front.items l.fn.piece).1;
  number : number_of (stage_of l.self.stage) + length l.rest ≤ number_of (stage_of l.fn.self.stage) + length l.fn.piece;
}

abbrev pub decreases-lines : goal.decreases-lines
decreases-lines l = length l.rest
