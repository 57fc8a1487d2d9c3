use Rattle.fabric_world.specs.declared.Line.TheVariants as lines
use Rattle.vtep_fabric.proofs.LineAnswers.{answers}
use Rattle.vtep_fabric.proofs.fabric.Fabric.settle.Goals as goal

pub returns : goal.returns
returns c =
    answers c.args.self.now c.install-done.new.self c.finish.new.self (lines.Settle c.args.line.now) c.install-done.result c.install-done.new.text c.args.out.now c.finish.new.out c.finish.result
    c.requires.going c.install-done.ensures c.finish.ensures
