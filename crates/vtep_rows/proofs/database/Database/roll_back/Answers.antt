use Rattle.std.proofs.Common.{ap, ◌∙◌}
use Rattle.vtep_rows.specs.Database.{images_fit}
use Rattle.vtep_rows.proofs.Touched.{all_fit}
use Rattle.vtep_rows.proofs.database.Database.roll_back.Goals as goal

pub put_back-done-requires : goal.put_back-done-requires
put_back-done-requires c =
    ap (λ b. images_fit c.self.inside.rows b.list) c.replace-images.ensures.value ∙ all_fit c.self.inside.before c.self.inside.counter c.self.inside.rows c.self.invariant
