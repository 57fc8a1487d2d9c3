use Rattle.vtep_gateway.proofs.LinesApart.{own_line, line_there}
use Rattle.vtep_gateway.proofs.show.each_fact_has_a_line.Goals as goal

pub returns-clause-own : goal.returns-clause-own
returns-clause-own c = own_line

pub returns-clause-there : goal.returns-clause-there
returns-clause-there c = line_there
