-- What the faults of a commit say.
use Rattle.std.specs.Prelude.{Option, Some, None}
use Rattle.vtep_rows.specs.declared.soundness.Rule.{Rule}
use Rattle.vtep_gateway.specs.declared.commit.CommitFault.{CommitFault}
use Rattle.vtep_gateway.specs.declared.commit.CommitFault.TheVariants.{OutOfMemory, Broken}
use Rattle.vtep_gateway.specs.declared.EventRefused.{EventRefused}
use Rattle.vtep_gateway.specs.declared.ports.PortFault.{PortFault}
use Rattle.vtep_gateway.specs.declared.ports.PortFault.TheVariants as port

-- the rule that the rows break
abbrev pub rule_of : CommitFault → Option Rule
rule_of OutOfMemory = None
rule_of (Broken rule) = Some rule

-- why the event changes nothing
abbrev pub refusal_of : PortFault → Option EventRefused
refusal_of port.OutOfMemory = None
refusal_of (port.Refused why) = Some why
