-- The state of a fabric, and what a line does in it: it is refused, or it gives a state and what is written.
use Rattle.std.specs.Prelude.{ℕ, Bool, true, false, not, nat_le, List, [], ◌∷◌, ◌++◌, Result, Ok, refl}
use Rattle.std.specs.Coded.{Coded, code_by, coded×, coded_ℕ, coded_bool, coded_list}
use Rattle.std.specs.List.{list_any}
use Rattle.vtep_base.specs.Chains.{◌>>=◌}
use Rattle.vtep_base.specs.Reading.{Bytes}
use Rattle.vtep_base.specs.Maps as maps
use Rattle.vtep_base.specs.declared.answers.LineReason.TheVariants.{Repeated, Limit, Use}
use Rattle.forward_program.specs.Shown.{shown}
use Rattle.forward_program.specs.Joins.{facts_of}
use Rattle.vtep_gateway.specs.Gateway.{Gateway, new_gateway, gateway_code}
use Rattle.vtep_gateway.specs.Show.{show_text}
use Rattle.vtep_gateway.specs.declared.Event.TheVariants as event
use Rattle.fabric_world.specs.declared.Fault.{Fault}
use Rattle.fabric_world.specs.declared.Line.{Line}
use Rattle.fabric_world.specs.declared.Line.TheVariants as line
use Rattle.fabric_world.specs.Intentions.{Intention, intention_code, nothing, refuse_if, intended}
use Rattle.fabric_world.specs.Happenings.{Gateways, Happening, known, has_ip, event_at, settled}
use Rattle.fabric_world.specs.Outputs.{Output, Settled, Shown}

-- how many gateways there may be
abbrev pub most_gateways : ℕ
most_gateways = 16

pub record World : Type 0 where
  pub gateways : Gateways
  pub intention : Intention
  pub untouched : Bool  -- neither `settle` nor `rpc` was run

abbrev pub world_code : Coded World
world_code =
    code_by (Gateways × (Intention × Bool)) (coded× (maps.code (coded_list coded_ℕ) gateway_code) (coded× intention_code coded_bool))
    (λ w. (w.gateways, (w.intention, w.untouched))) (λ p. record { gateways = p.0; intention = p.1.0; untouched = p.1.1 }) (λ _. refl)

abbrev pub start : World
start = record { gateways = maps.empty; intention = nothing; untouched = true }

-- a state, and what is written on the way to it
pub record Outcome : Type 0 where
  pub world : World
  pub output : List Output

abbrev pub silent : World → Outcome
silent w = record { world = w; output = [] }

-- what happens at the gateways
abbrev pub at_gateways : World → Happening → Outcome
at_gateways w h = record { world = record w { gateways = h.gateways }; output = h.output }

abbrev pub touched : World → World
touched w = record w { untouched = false }

-- the facts of a gateway's forwarding state, as lines
abbrev pub shown_at : Gateway → Bytes
shown_at gateway = show_text gateway.vtep.name gateway.vtep.rows (facts_of (shown gateway.vtep.rows gateway.vtep.learned))

-- what a line does
abbrev pub run : World → Line → Result Outcome Fault
run w (line.Gateway l) = do
  named ← refuse_if (maps.has w.gateways l.g) 1 Repeated
  addressed ← refuse_if (list_any (has_ip l.ip) w.gateways.list) 2 Repeated
  full ← refuse_if (nat_le most_gateways (maps.size w.gateways)) 0 Limit
  Ok (silent (record w { gateways = maps.insert w.gateways l.g (new_gateway l.g l.ip) }))
run w (line.Port l) = do
  h ← event_at w.gateways l.g (event.Port l.p)
  Ok (at_gateways w h)
run w (line.Unport l) = do
  h ← event_at w.gateways l.g (event.Unport l.p)
  Ok (at_gateways w h)
run w (line.Intend l) = do
  i ← intended (maps.has w.gateways) w.intention l
  Ok (silent (record w { intention = i }))
run w (line.Frame l) = do
  h ← event_at w.gateways l.g (event.Frame l.p l.hex)
  Ok (at_gateways w h)
run w (line.Underlay l) = do
  h ← event_at w.gateways l.g (event.Underlay l.hex)
  Ok (at_gateways w h)
run w (line.Age l) = do
  h ← event_at w.gateways l.g (event.Age l.seconds)
  Ok (at_gateways w h)
run w (line.Rpc l) = do
  h ← event_at w.gateways l.g (event.Bytes l.session l.hex)
  Ok (at_gateways (touched w) h)
run w (line.Hangup l) = do
  h ← event_at w.gateways l.g (event.Hangup l.session)
  Ok (at_gateways w h)
run w (line.Settle l) = do
  installs ← refuse_if (not w.untouched) 0 Use
  let h : Happening = settled w.intention w.gateways in Ok (record { world = touched (record w { gateways = h.gateways }); output = h.output ++ (Settled ∷ []) })
run w (line.Show l) = do
  gateway ← known w.gateways l.g
  Ok (record { world = w; output = Shown (shown_at gateway) ∷ [] })
