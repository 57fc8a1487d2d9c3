use Rattle.fabric_world.specs.declared.Line.TheVariants as lines
use Rattle.vtep_fabric.proofs.LineAnswers.{answers}
use Rattle.vtep_fabric.proofs.fabric.Fabric.underlay.Goals as goal

pub returns : goal.returns
returns c =
    answers c.args.self.now c.take_packet-done.new.self c.finish.new.self (lines.Underlay c.args.line.now) c.take_packet-done.result c.take_packet-done.new.text c.args.out.now c.finish.new.out c.finish.result
    c.requires.going c.take_packet-done.ensures c.finish.ensures
