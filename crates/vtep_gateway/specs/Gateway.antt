-- A gateway's state, and what an event comes to.
use Rattle.std.specs.Prelude.{ℕ, Bool, false, List, [], Option, None, Some, refl}
use Rattle.std.specs.Ordering.{nat_cmp}
use Rattle.std.specs.Coded.{Coded, code_by, coded×, coded_ℕ, coded_bool, coded_list, coded_option}
use Rattle.vtep_base.specs.Reading.{Bytes}
use Rattle.vtep_base.specs.Maps as maps
use Rattle.vtep_base.specs.Maps.{Map}
use Rattle.rpc_framing.specs.declared.Framing.{Framing}
use Rattle.rpc_framing.specs.contracts.Framing as framing
use Rattle.rpc_framing.specs.Streams.{Stream, stream_code}
use Rattle.vtep_rows.specs.Rows.{opening}
use Rattle.forward_program.specs.Spots.{State, state_code}
use Rattle.forward_program.specs.Sent as sent
use Rattle.forward_program.specs.Sent.{Sent, sent_code}
use Rattle.vtep_gateway.specs.declared.Outgoing.{Outgoing}
use Rattle.vtep_gateway.specs.contracts.Outgoing as outgoing
use Rattle.vtep_gateway.specs.declared.Reason.{Reason}
use Rattle.vtep_gateway.specs.contracts.Reason as reason
use Rattle.vtep_gateway.specs.declared.EventRefused.{EventRefused}
use Rattle.vtep_gateway.specs.contracts.EventRefused as event_refused
use Rattle.vtep_gateway.specs.Vtep.{Vtep, vtep_code}

-- the streams of the open sessions
abbrev pub Streams : Type 0
Streams = Map nat_cmp Stream

abbrev pub streams_code : Coded Streams
streams_code = maps.code coded_ℕ stream_code

pub record Gateway : Type 0 where
  pub vtep : Vtep
  pub streams : Streams

-- a gateway as it runs: its state, and the forwarding state beside it
pub record Running : Type 0 where
  pub state : Gateway
  pub fib : State

-- a gateway, and whether it found no memory
pub record Held : Type 0 where
  pub state : Gateway
  pub stopped : Bool

abbrev pub gateway_code : Coded Gateway
gateway_code = code_by (Vtep × Streams) (coded× vtep_code streams_code) (λ g. (g.vtep, g.streams)) (λ p. record { vtep = p.0; streams = p.1 }) (λ _. refl)

abbrev pub running_code : Coded Running
running_code = code_by (Gateway × State) (coded× gateway_code state_code) (λ g. (g.state, g.fib)) (λ p. record { state = p.0; fib = p.1 }) (λ _. refl)

abbrev pub held_code : Coded Held
held_code = code_by (Gateway × Bool) (coded× gateway_code coded_bool) (λ h. (h.state, h.stopped)) (λ p. record { state = p.0; stopped = p.1 }) (λ _. refl)

-- that has learnt nothing, and of which no session is open, and so none has monitors
abbrev pub new_gateway : Bytes → ℕ → Gateway
new_gateway name ip = record { vtep = record { name = name; rows = opening name ip; learned = []; clock = 0; monitors = maps.empty }; streams = maps.empty }

-- what an event comes to: the messages that go out, the refusal of the stream that the piece came to, whether a frame's source could
-- not be learnt, the frames and packets that leave, why a frame or packet goes nowhere, and why the event changes nothing
pub record Answer : Type 0 where
  pub sends : List Outgoing
  pub failed : Option Framing
  pub full : Bool
  pub sent : Sent
  pub dropped : Option Reason
  pub refused : Option EventRefused

abbrev pub answer_code : Coded Answer
answer_code =
    code_by (List Outgoing × (Option Framing × (Bool × (Sent × (Option Reason × Option EventRefused)))))
    (coded× (coded_list (outgoing.the_row).coded) (coded× (coded_option (framing.the_row).coded) (coded× coded_bool (coded× sent_code (coded× (coded_option (reason.the_row).coded) (coded_option (event_refused.the_row).coded))))))
    (λ a. (a.sends, (a.failed, (a.full, (a.sent, (a.dropped, a.refused)))))) (λ p. record { sends = p.0; failed = p.1.0; full = p.1.1.0; sent = p.1.1.1.0; dropped = p.1.1.1.1.0; refused = p.1.1.1.1.1 }) (λ _. refl)

pub record Step : Type 0 where
  pub gateway : Gateway
  pub answer : Answer

abbrev pub nothing : Answer
nothing = record { sends = []; failed = None; full = false; sent = sent.nothing; dropped = None; refused = None }

abbrev pub unchanged : Gateway → Step
unchanged g = record { gateway = g; answer = nothing }

abbrev pub refused : Gateway → EventRefused → Step
refused g why = record { gateway = g; answer = record nothing { refused = Some why } }
