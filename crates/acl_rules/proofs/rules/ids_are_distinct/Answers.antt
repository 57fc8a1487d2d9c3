use Rattle.std.proofs.Common.{sym, ◌∙◌}
use Rattle.acl_rules.proofs.Distinct.{test_decides}
use Rattle.acl_rules.proofs.rules.ids_are_distinct.Goals as goal

pub returns : goal.returns
returns c =
    let decides = test_decides c.args.entries.now in
    (λ t. decides.0 (sym c.repeat_no_id.ensures ∙ t), λ d. c.repeat_no_id.ensures ∙ decides.1 d)
