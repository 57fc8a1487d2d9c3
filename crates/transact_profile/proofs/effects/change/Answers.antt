use Rattle.std.proofs.Common.{ap, ◌∙◌}
use Rattle.transact_profile.specs.Conditions.{selected}
use Rattle.transact_profile.specs.Meaning.{changed, change_step}
use Rattle.transact_profile.proofs.Counting.{along}
use Rattle.transact_profile.proofs.effects.change.Goals as goal

pub returns-clause-value : goal.returns-clause-value
unfolding change_step
returns-clause-value c = along _ _ c.args.table (changed c.args.edit) _ _ _ (c.as_slice.ensures ∙ c.in_ok-ids.ensures ∙ ap (selected c.args.table c.args.conditions.now) c.rows.ensures) c.count_changed.ensures.value
