use Rattle.std.proofs.Common.{◌≡◌, ◌++◌, drop}
use Rattle.fabric_world.specs.Outputs.{outputs_text}
use Rattle.fabric_world.specs.Happenings.{messages}
use Rattle.vtep_fabric.proofs.outputs.write_messages.Given as goal

abbrev pub invariant-sends : goal.invariant-sends
invariant-sends l =
    l.out ++ outputs_text (messages l.gateway (drop l.message-index l.sends))
    ≡ l.fn.out ++ outputs_text (messages l.gateway l.sends)
