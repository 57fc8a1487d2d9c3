use Rattle.vtep_gateway.proofs.ToldTexts.{update_is}
use Rattle.vtep_gateway.proofs.laws.updates_are_notifications.Goals as goal

pub returns : goal.returns
returns c = update_is
