use Rattle.std.proofs.Common.{sym, subst}
use Rattle.fabric_world.specs.declared.Line.TheVariants as lines
use Rattle.vtep_fabric.specs.Fabrics.{Does}
use Rattle.vtep_fabric.proofs.LineAnswers.{answers}
use Rattle.vtep_fabric.proofs.fabric.Fabric.intend.Goals as goal

pub returns : goal.returns
returns c =
    let line = lines.Intend c.args.line.now in
    let done = c.change_intention-done.result in
    answers c.args.self.now c.change_intention-done.new.self c.finish.new.self line done c.new-text.result c.args.out.now c.finish.new.out c.finish.result
    c.requires.going (subst (λ t. Does c.args.self.now line c.change_intention-done.new.self t done) (sym c.new-text.ensures) c.change_intention-done.ensures) c.finish.ensures
