-- How definitions see a fabric, and what its line calls answer.
use Rattle.std.specs.Prelude.{◌≡◌, Bool, List, [], map, ◌++◌, Option, Some, None, refl, Result, Ok, Err, ⊤, true, false}
use Rattle.std.specs.Coded.{Coded, code_by, coded×, coded_ℕ, coded_list, coded_bool}
use Rattle.vtep_base.specs.Reading.{Bytes}
use Rattle.vtep_base.specs.Maps as maps
use Rattle.vtep_gateway.specs.declared.Event.{Event}
use Rattle.vtep_gateway.specs.Gateway as gateway
use Rattle.vtep_gateway.specs.Gateway.{Gateway, Answer}
use Rattle.vtep_gateway.specs.Moves as moves
use Rattle.fabric_world.specs.declared.Fault.{Fault}
use Rattle.fabric_world.specs.declared.Line.{Line}
use Rattle.fabric_world.specs.Outputs.{outputs_text}
use Rattle.fabric_world.specs.Happenings.{Gateways, Happening}
use Rattle.fabric_world.specs.World.{World, world_code, Outcome, shown_at, run}
use Rattle.vtep_fabric.specs.declared.FabricFault.{FabricFault}
use Rattle.vtep_fabric.specs.declared.FabricFault.TheVariants.{OutOfMemory, Refused}

-- a fabric's state, and whether it found no memory
pub record Held : Type 0 where
  pub world : World
  pub stopped : Bool

abbrev pub held_code : Coded Held
held_code = code_by (World × Bool) (coded× world_code coded_bool) (λ h. (h.world, h.stopped)) (λ p. record { world = p.0; stopped = p.1 }) (λ _. refl)

-- the gateways of a fabric, by their names
abbrev pub gateways_of : List (Bytes × gateway.Held) → Gateways
gateways_of entries = maps.of_list (map (λ e. (e.0, e.1.state)) entries)

abbrev pub roster_code : Coded Gateways
roster_code = maps.code (coded_list coded_ℕ) gateway.gateway_code

abbrev pub refusal_of : FabricFault → Option Fault
refusal_of OutOfMemory = None
refusal_of (Refused word reason) = Some (record { word = word; reason = reason })

-- ---- events

-- a gateway took an event and answered
pub record Took (old : Gateways) (g : Bytes) (e : Event) (new : Gateways) (a : Answer) : Type 0 where
  pub before : Gateway
  pub after : Gateway
  pub found : maps.get old g ≡ Some before
  pub stepped : moves.step before e ≡ record { gateway = after; answer = a }
  pub leads : new ≡ maps.insert old g after

-- the gateway of this name took an event, or there is none
abbrev pub Given : Gateways → Bytes → Event → Gateways → Option Answer → Type 0
Given old g e new None = (maps.get old g ≡ None) × (new ≡ old)
Given old g e new (Some a) = Took old g e new a

-- something happened, and it was written behind what was there
pub record Happens (h : Happening) (new : Gateways) (before after : Bytes) : Type 0 where
  pub leads : new ≡ h.gateways
  pub writes : after ≡ before ++ outputs_text h.output

abbrev pub DoesHappen : Result Happening Fault → Gateways → Bytes → Bytes → Type 0
DoesHappen (Ok h) new before after = Happens h new before after
DoesHappen (Err why) new before after = ⊥

-- the gateway of this name was shown
pub record Shows (gs : Gateways) (g before after : Bytes) : Type 0 where
  pub gateway : Gateway
  pub found : maps.get gs g ≡ Some gateway
  pub writes : after ≡ before ++ shown_at gateway

-- ---- lines

-- the line was run, and its output stands behind what was written before
pub record Runs (old : World) (line : Line) (new : World) (before after : Bytes) : Type 0 where
  pub outcome : Outcome
  pub does : run old line ≡ Ok outcome
  pub leads : new ≡ outcome.world
  pub writes : after ≡ before ++ outputs_text outcome.output

-- what a line call answers: the line was run, and its output stands behind what was written before; or the line is refused, and all
-- is as it was; or no memory was found, and nothing was written
abbrev pub Answers : Held → Line → Held → Bytes → Bytes → Result ⊤ FabricFault → Type 0
Answers old line new before after (Ok done) = Runs old.world line new.world before after × (new.stopped ≡ false)
Answers old line new before after (Err OutOfMemory) = (new.stopped ≡ true) × (after ≡ before)
Answers old line new before after (Err (Refused word reason)) = (run old.world line ≡ Err (record { word = word; reason = reason })) × (new ≡ old) × (after ≡ before)

-- a line is run and writes a text, or it is refused and all is as it was, or no memory was found
abbrev pub Does : Held → Line → Held → Bytes → Result ⊤ FabricFault → Type 0
Does old line new text (Ok done) = Runs old.world line new.world [] text × (new.stopped ≡ old.stopped)
Does old line new text (Err OutOfMemory) = new.stopped ≡ old.stopped
Does old line new text (Err (Refused word reason)) = (run old.world line ≡ Err (record { word = word; reason = reason })) × (new ≡ old)

-- what was done is answered, and where a line was run its text is written
abbrev pub Finishes : Held → Result ⊤ FabricFault → Bytes → Held → Bytes → Bytes → Result ⊤ FabricFault → Type 0
Finishes old done text new before after (Ok ended) = (done ≡ Ok tt) × (new ≡ old) × (after ≡ before ++ text)
Finishes old done text new before after (Err OutOfMemory) = (new.stopped ≡ true) × (after ≡ before)
Finishes old done text new before after (Err (Refused word reason)) = (done ≡ Err (Refused word reason)) × (new ≡ old) × (after ≡ before)
