use Rattle.fabric_world.specs.declared.Line.TheVariants as lines
use Rattle.vtep_fabric.proofs.LineAnswers.{answers}
use Rattle.vtep_fabric.proofs.fabric.Fabric.age.Goals as goal

pub returns : goal.returns
returns c =
    answers c.args.self.now c.pass_time-done.new.self c.finish.new.self (lines.Age c.args.line.now) c.pass_time-done.result c.pass_time-done.new.text c.args.out.now c.finish.new.out c.finish.result
    c.requires.going c.pass_time-done.ensures c.finish.ensures
