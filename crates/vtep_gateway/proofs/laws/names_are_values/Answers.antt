use Rattle.vtep_gateway.proofs.NamesApart.{one_text}
use Rattle.vtep_gateway.proofs.laws.names_are_values.Goals as goal

pub returns : goal.returns
returns c = one_text
