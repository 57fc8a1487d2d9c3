use Rattle.std.proofs.Common.{sym, subst}
use Rattle.fabric_world.specs.declared.Line.TheVariants as lines
use Rattle.vtep_fabric.specs.Fabrics.{Does}
use Rattle.vtep_fabric.proofs.LineAnswers.{answers}
use Rattle.vtep_fabric.proofs.fabric.Fabric.gateway.Goals as goal

pub returns : goal.returns
returns c =
    let line = lines.Gateway c.args.line.now in
    let done = c.add_gateway-done.result in
    answers c.args.self.now c.add_gateway-done.new.self c.finish.new.self line done c.new-text.result c.args.out.now c.finish.new.out c.finish.result
    c.requires.going (subst (λ t. Does c.args.self.now line c.add_gateway-done.new.self t done) (sym c.new-text.ensures) c.add_gateway-done.ensures) c.finish.ensures
