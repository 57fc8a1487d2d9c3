use Rattle.fabric_world.specs.declared.Line.TheVariants as lines
use Rattle.vtep_fabric.proofs.LineAnswers.{answers}
use Rattle.vtep_fabric.proofs.fabric.Fabric.unport.Goals as goal

pub returns : goal.returns
returns c =
    answers c.args.self.now c.remove_port-done.new.self c.finish.new.self (lines.Unport c.args.line.now) c.remove_port-done.result c.remove_port-done.new.text c.args.out.now c.finish.new.out c.finish.result
    c.requires.going c.remove_port-done.ensures c.finish.ensures
