use Rattle.fabric_world.specs.declared.Line.TheVariants as lines
use Rattle.vtep_fabric.proofs.LineAnswers.{answers}
use Rattle.vtep_fabric.proofs.fabric.Fabric.rpc.Goals as goal

pub returns : goal.returns
returns c =
    answers c.args.self.now c.take_piece-done.new.self c.finish.new.self (lines.Rpc c.args.line.now) c.take_piece-done.result c.take_piece-done.new.text c.args.out.now c.finish.new.out c.finish.result
    c.requires.going c.take_piece-done.ensures c.finish.ensures
