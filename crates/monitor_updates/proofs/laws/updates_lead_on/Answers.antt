use Rattle.monitor_updates.proofs.Views.{folds}
use Rattle.monitor_updates.proofs.laws.updates_lead_on.Goals as goal

pub returns : goal.returns
returns c = folds
