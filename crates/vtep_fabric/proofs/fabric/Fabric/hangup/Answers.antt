use Rattle.fabric_world.specs.declared.Line.TheVariants as lines
use Rattle.vtep_fabric.proofs.LineAnswers.{answers}
use Rattle.vtep_fabric.proofs.fabric.Fabric.hangup.Goals as goal

pub returns : goal.returns
returns c =
    answers c.args.self.now c.end_session-done.new.self c.finish.new.self (lines.Hangup c.args.line.now) c.end_session-done.result c.end_session-done.new.text c.args.out.now c.finish.new.out c.finish.result
    c.requires.going c.end_session-done.ensures c.finish.ensures
