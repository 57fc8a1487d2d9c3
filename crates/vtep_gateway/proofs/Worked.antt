-- Events by computation.
use Rattle.std.specs.Prelude.{◌≡◌, List, [], ◌∷◌, map, true, is_some, Some, codes, refl}
use Rattle.std.specs.Str.{is_utf8, chars}
use Rattle.json_notation.specs.Computes.{texts}
use Rattle.vtep_base.specs.Reading.{Bytes}
use Rattle.vtep_base.specs.Maps as maps
use Rattle.rpc_framing.specs.declared.FramingKind.TheVariants.{NotObject}
use Rattle.rpc_framing.specs.Streams.{opened}
use Rattle.vtep_gateway.specs.declared.Event.{Event}
use Rattle.vtep_gateway.specs.declared.Event.TheVariants as event
use Rattle.vtep_gateway.specs.declared.EventRefused.TheVariants.{NoSession, NoPort, Repeated}
use Rattle.vtep_gateway.specs.Ports.{port_named}
use Rattle.vtep_gateway.specs.Gateway.{Gateway, new_gateway, Step, nothing, refused}
use Rattle.vtep_gateway.specs.Moves.{step}

abbrev g1 : Gateway
g1 = new_gateway (codes "g1") 0x0a000001

-- the gateway after events, and what is sent at all of them
abbrev run : Gateway → List Event → Gateway
run g [] = g
run g (e ∷ es) = run (step g e).gateway es

abbrev sent : Step → List Bytes
sent s = map (λ o. o.bytes) s.answer.sends

lists_databases : sent (step g1 (event.Bytes 1 (codes "{\"method\":\"list_dbs\",\"params\":[],\"id\":1}"))) ≡ codes "{\"error\":null,\"id\":1,\"result\":[\"hardware_vtep\"]}" ∷ []
unfolding texts is_utf8 chars
lists_databases = refl

echoes : sent (step g1 (event.Bytes 1 (codes "{\"method\":\"echo\",\"params\":[\"\\\"}[\"],\"id\":\"a\"}"))) ≡ codes "{\"error\":null,\"id\":\"a\",\"result\":[\"\\\"}[\"]}" ∷ []
unfolding texts is_utf8 chars
echoes = refl

-- in two pieces, cut behind the backslash
echoes_late : sent (step (step g1 (event.Bytes 1 (codes "{\"method\":\"echo\",\"params\":[\"\\"))).gateway (event.Bytes 1 (codes "\"}[\"],\"id\":\"a\"}"))) ≡ codes "{\"error\":null,\"id\":\"a\",\"result\":[\"\\\"}[\"]}" ∷ []
unfolding texts is_utf8 chars
echoes_late = refl

-- two messages in a piece are both answered, and a notification between them is not
answers_both : sent (step g1 (event.Bytes 7 (codes "{\"method\":\"nope\",\"params\":[],\"id\":0} {\"method\":\"echo\",\"params\":[],\"id\":null} {\"method\":\"get_schema\",\"params\":[\"other\"],\"id\":[]}")))
    ≡ codes "{\"error\":\"unknown method\",\"id\":0,\"result\":null}" ∷ codes "{\"error\":\"unknown database\",\"id\":[],\"result\":null}" ∷ []
unfolding texts is_utf8 chars
answers_both = refl

refuses : (step g1 (event.Bytes 2 (0x20 ∷ 0x78 ∷ []))).answer ≡ record nothing { failed = Some (record { offset = 1; kind = NotObject }) }
refuses = refl

refuses_again : (step (step g1 (event.Bytes 2 (0x20 ∷ 0x78 ∷ []))).gateway (event.Bytes 2 [])).answer ≡ record nothing { failed = Some (record { offset = 1; kind = NotObject }) }
refuses_again = refl

opens_anew : (run g1 (event.Bytes 2 (0x20 ∷ 0x78 ∷ []) ∷ event.Hangup 2 ∷ event.Bytes 2 [] ∷ [])).streams ≡ maps.insert maps.empty 2 (opened 0x2000000)
opens_anew = refl

not_open : step g1 (event.Hangup 2) ≡ refused g1 NoSession
not_open = refl

-- ---- ports

has_p1 : is_some (port_named (step g1 (event.Port (codes "p1"))).gateway.vtep.rows (codes "p1")) ≡ true
unfolding texts is_utf8 chars
has_p1 = refl

repeated : (step (step g1 (event.Port (codes "p1"))).gateway (event.Port (codes "p1"))).answer ≡ record nothing { refused = Some Repeated }
unfolding texts is_utf8 chars
repeated = refl

no_port : step g1 (event.Unport (codes "p1")) ≡ refused g1 NoPort
unfolding texts is_utf8 chars
no_port = refl

-- the number of a port that went is not given again
gone : (run g1 (event.Port (codes "p1") ∷ event.Unport (codes "p1") ∷ [])).vtep.rows ≡ record (g1.vtep.rows) { counter = 3 }
unfolding texts is_utf8 chars
gone = refl

-- ---- transactions

inserts : sent (step g1 (event.Bytes 1 (codes "{\"method\":\"transact\",\"params\":[\"hardware_vtep\",{\"op\":\"insert\",\"table\":\"Logical_Switch\",\"row\":{\"name\":\"red\"}}],\"id\":7}")))
    ≡ codes "{\"error\":null,\"id\":7,\"result\":[{\"uuid\":[\"uuid\",\"0a000001-0000-8000-8000-000000000003\"]}]}" ∷ []
unfolding texts is_utf8 chars
inserts = refl

-- what an insertion did before the abort is taken back
aborted : step g1 (event.Bytes 1 (codes "{\"method\":\"transact\",\"params\":[\"hardware_vtep\",{\"op\":\"insert\",\"table\":\"Logical_Switch\",\"row\":{\"name\":\"red\"}},{\"op\":\"abort\"}],\"id\":7}"))
    ≡ record {
      gateway = record g1 { streams = maps.insert maps.empty 1 (record (opened 0x2000000) { at = 132 }) };
      answer = record nothing { sends = record { session = 1; bytes = codes "{\"error\":null,\"id\":7,\"result\":[{\"uuid\":[\"uuid\",\"0a000001-0000-8000-8000-000000000003\"]},{\"error\":\"aborted\"}]}" } ∷ [] };
    }
unfolding texts is_utf8 chars
aborted = refl

-- ---- monitors

-- the gateway once session 1 follows the names of the switches
abbrev monitored : Gateway
monitored = (step g1 (event.Bytes 1 (codes "{\"method\":\"monitor\",\"params\":[\"hardware_vtep\",\"m\",{\"Logical_Switch\":{\"columns\":[\"name\"]}}],\"id\":1}"))).gateway

opens_a_monitor : sent (step g1 (event.Bytes 1 (codes "{\"method\":\"monitor\",\"params\":[\"hardware_vtep\",\"m\",{\"Logical_Switch\":{\"columns\":[\"name\"]}}],\"id\":1}"))) ≡ codes "{\"error\":null,\"id\":1,\"result\":{}}" ∷ []
unfolding texts is_utf8 chars
opens_a_monitor = refl

-- session 2 inserts a switch: session 1 is told of it before session 2 has its reply
tells_of_a_row : (step monitored (event.Bytes 2 (codes "{\"method\":\"transact\",\"params\":[\"hardware_vtep\",{\"op\":\"insert\",\"table\":\"Logical_Switch\",\"row\":{\"name\":\"red\"}}],\"id\":7}"))).answer.sends
    ≡ record { session = 1; bytes = codes "{\"id\":null,\"method\":\"update\",\"params\":[\"m\",{\"Logical_Switch\":{\"0a000001-0000-8000-8000-000000000003\":{\"new\":{\"name\":\"red\"}}}}]}" }
    ∷ record { session = 2; bytes = codes "{\"error\":null,\"id\":7,\"result\":[{\"uuid\":[\"uuid\",\"0a000001-0000-8000-8000-000000000003\"]}]}" } ∷ []
unfolding texts is_utf8 chars
tells_of_a_row = refl

forgets_monitors : (run monitored (event.Hangup 1 ∷ [])).vtep ≡ g1.vtep
unfolding texts is_utf8 chars
forgets_monitors = refl
