use Rattle.fabric_world.specs.declared.Line.TheVariants as lines
use Rattle.vtep_fabric.proofs.LineAnswers.{answers}
use Rattle.vtep_fabric.proofs.fabric.Fabric.show.Goals as goal

pub returns : goal.returns
returns c =
    answers c.args.self.now c.show_gateway-done.new.self c.finish.new.self (lines.Show c.args.line.now) c.show_gateway-done.result c.show_gateway-done.new.text c.args.out.now c.finish.new.out c.finish.result
    c.requires.going c.show_gateway-done.ensures c.finish.ensures
