use Rattle.fabric_world.proofs.DeliveryLaw as law
use Rattle.fabric_world.proofs.settled_delivers.Goals as goal

pub returns-clause-delivers : goal.returns-clause-delivers
returns-clause-delivers c = law.settled_delivers

pub returns-clause-rows : goal.returns-clause-rows
returns-clause-rows c = law.switches_are_rows
