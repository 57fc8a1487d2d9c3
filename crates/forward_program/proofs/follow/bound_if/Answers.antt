use Rattle.std.proofs.Common.{ap}
use Rattle.std.specs.Option.{option_map}
use Rattle.forward_program.proofs.ClearRows.{if_bound}
use Rattle.forward_program.proofs.follow.bound_if.Goals as goal

pub returns : goal.returns
returns c = if_bound _ c.in_ok-row.field-0.now c.args.port c.args.vlan c.bound_to.result (ap (option_map (λ r. r.now)) c.in_ok-row.was) c.bound_to.ensures
