use Rattle.fabric_world.proofs.LineRanges as law
use Rattle.fabric_world.proofs.read_lines_are_lines.Goals as goal

pub returns : goal.returns
returns c = law.read_lines_are_lines
