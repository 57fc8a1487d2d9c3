-- What a gateway does with an event.
use Rattle.std.specs.Prelude.{ℕ, if◌then◌else◌, Option, Some, None}
use Rattle.vtep_base.specs.Reading.{Bytes}
use Rattle.vtep_base.specs.Maps as maps
use Rattle.vtep_gateway.specs.declared.Event.{Event}
use Rattle.vtep_gateway.specs.declared.Event.TheVariants as event
use Rattle.vtep_gateway.specs.declared.EventRefused.{EventRefused}
use Rattle.vtep_gateway.specs.declared.EventRefused.TheVariants.{NoSession, NoPort}
use Rattle.vtep_gateway.specs.Gateway.{Gateway, Step, nothing, refused}
use Rattle.vtep_gateway.specs.Sessions.{on_bytes}
use Rattle.vtep_gateway.specs.Vtep.{with_monitors}
use Rattle.vtep_gateway.specs.Commit.{Taken, changed}
use Rattle.vtep_gateway.specs.Learning.{aged}
use Rattle.vtep_gateway.specs.Ports.{port_named, port_refusal, with_port, without_port}
use Rattle.vtep_gateway.specs.Frames.{on_frame, on_underlay}

-- without the session's stream and its monitors
abbrev pub hung_up : Gateway → ℕ → Gateway
hung_up g s = record { vtep = with_monitors g.vtep (maps.remove g.vtep.monitors s); streams = maps.remove g.streams s }

abbrev pub on_hangup : Gateway → ℕ → Step
on_hangup g s = if maps.has g.streams s then record { gateway = hung_up g s; answer = nothing } else refused g NoSession

-- what a commit leaves, and the monitors are told how the rows differ
abbrev pub settled : Gateway → Taken → Step
settled g t = record { gateway = record g { vtep = t.vtep }; answer = record nothing { sends = t.sends } }

abbrev pub port_unless : Gateway → Bytes → Option EventRefused → Step
port_unless g name None = settled g (changed g.vtep (with_port g.vtep.rows name) g.vtep.learned)
port_unless g name (Some why) = refused g why

abbrev pub on_port : Gateway → Bytes → Step
on_port g name = port_unless g name (port_refusal g.vtep.rows name)

abbrev pub unport_by : Gateway → Option ℕ → Step
unport_by g None = refused g NoPort
unport_by g (Some id) = settled g (changed g.vtep (without_port g.vtep.rows id) g.vtep.learned)

abbrev pub on_unport : Gateway → Bytes → Step
on_unport g name = unport_by g (port_named g.vtep.rows name)

-- the one answer and next state of an event
abbrev pub step : Gateway → Event → Step
step g (event.Bytes s piece) = on_bytes g s piece
step g (event.Hangup s) = on_hangup g s
step g (event.Port name) = on_port g name
step g (event.Unport name) = on_unport g name
step g (event.Frame port bytes) = on_frame g port bytes
step g (event.Underlay bytes) = on_underlay g bytes
step g (event.Age seconds) = settled g (aged g.vtep seconds)
