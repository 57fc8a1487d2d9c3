use Rattle.std.proofs.Common.{ap, ◌∙◌}
use Rattle.mac_learning.specs.Learning.{found}
use Rattle.mac_learning.proofs.KeptLemmas.{looked_up}
use Rattle.mac_learning.proofs.Learned.find.Goals as goal

pub returns : goal.returns
returns c =
    c.get.ensures.value
    ∙ looked_up c.args.switch c.args.mac c.number.result _ c.number.ensures c.self.invariant.under_own_key
    ∙ ap (λ l. found c.args.switch c.args.mac l.entries) c.self.view_is
