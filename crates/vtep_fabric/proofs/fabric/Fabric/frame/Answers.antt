use Rattle.fabric_world.specs.declared.Line.TheVariants as lines
use Rattle.vtep_fabric.proofs.LineAnswers.{answers}
use Rattle.vtep_fabric.proofs.fabric.Fabric.frame.Goals as goal

pub returns : goal.returns
returns c =
    answers c.args.self.now c.take_frame-done.new.self c.finish.new.self (lines.Frame c.args.line.now) c.take_frame-done.result c.take_frame-done.new.text c.args.out.now c.finish.new.out c.finish.result
    c.requires.going c.take_frame-done.ensures c.finish.ensures
