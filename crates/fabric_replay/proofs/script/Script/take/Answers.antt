use Rattle.std.proofs.Common.{◌≡◌, ℕ, ◌+◌, ◌++◌, [], drop, ap, ◌∙◌, arith}
use Rattle.vtep_base.specs.Reading.{Bytes}
use Rattle.fabric_world.specs.Text.{cut}
use Rattle.fabric_world.specs.Script.{Stage, play}
use Rattle.fabric_replay.specs.Stages.{stage_of}
use Rattle.fabric_replay.proofs.LinesOfPieces.{step_text, step_stage, step_front, feeds_all}
use Rattle.fabric_replay.proofs.script.Script.take.Goals as goal

pub lines-preserved : goal.lines-preserved
lines-preserved c =
    let old : Stage = stage_of c.lines.self.stage in
    let new : Stage = stage_of c.finish_line.new.self.stage in
    let front : Bytes = c.lines.self.front.items in
    let rest : Bytes = c.lines.rest.now in
    let after : Bytes = c.finish_line.new.out in
    let at : ℕ = c.in-Some.at in
    let plays = rw c.split_at.ensures.front at c.in_ok-finish_line.ensures.plays in
    let none : c.finish_line.new.self.front.items ≡ [] = c.in_ok-finish_line.ensures.front in
    let behind : c.split_at-in-Some.result.1.now ≡ drop (at + 1) rest = c.split_at-in-Some.ensures.back in
    record {
      text = ap (λ f. after ++ (play new (cut f c.split_at-in-Some.result.1.now).0).text) none ∙ ap (λ b. after ++ (play new (cut [] b).0).text) behind
          ∙ step_text old new front rest c.lines.out after at c.in-Some.ensures plays ∙ c.lines.invariant.text;
      stage = ap (λ f. (play new (cut f c.split_at-in-Some.result.1.now).0).stage) none ∙ ap (λ b. (play new (cut [] b).0).stage) behind
          ∙ step_stage old new front rest c.lines.out after at c.in-Some.ensures plays ∙ c.lines.invariant.stage;
      front = ap (λ f. (cut f c.split_at-in-Some.result.1.now).1) none ∙ ap (λ b. (cut [] b).1) behind ∙ step_front front rest at c.in-Some.ensures ∙ c.lines.invariant.front;
      number = omega (arith, c.in_ok-finish_line.ensures.number, c.split_at-in-Some.ensures.back_len, c.lines.invariant.number);
    }

pub returns-clause-feeds : goal.returns-clause-feeds
returns-clause-feeds c =
    rw c.in_ok-extend_from_slice.ensures.items
    (feeds_all (stage_of c.args.self.now.stage) (stage_of c.lines.self.stage) c.args.self.now.front.items c.lines.self.front.items c.args.piece.now c.lines.rest.now c.args.out.now c.lines.out
    c.in_default.ensures c.lines.invariant.text c.lines.invariant.stage c.lines.invariant.front)
