use Rattle.fabric_world.proofs.TextLaws as law
use Rattle.fabric_world.proofs.cuts_do_not_matter.Goals as goal

pub returns : goal.returns
returns c = law.cuts_do_not_matter
