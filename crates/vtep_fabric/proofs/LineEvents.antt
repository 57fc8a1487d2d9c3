-- Lines that are events at gateways.
use Rattle.std.proofs.Common.{◌≡◌, Bool, [], Result, Ok, Err, refl, ap, ◌∙◌}
use Rattle.std.specs.Prelude.{⊤, OnOk, IfErr}
use Rattle.vtep_base.specs.Answers.{OrMemory}
use Rattle.vtep_base.specs.Chains.{◌>>=◌}
use Rattle.vtep_base.specs.Reading.{Bytes}
use Rattle.vtep_gateway.specs.declared.Event.{Event}
use Rattle.fabric_world.specs.declared.Fault.{Fault}
use Rattle.fabric_world.specs.declared.Line.{Line}
use Rattle.fabric_world.specs.Happenings.{Gateways, Happening, event_at}
use Rattle.fabric_world.specs.World.{World, Outcome, at_gateways, run}
use Rattle.vtep_fabric.specs.Fabrics.{refusal_of, Runs, Does, DoesHappen}
use Rattle.vtep_fabric.specs.declared.FabricFault.{FabricFault}
use Rattle.vtep_fabric.specs.declared.FabricFault.TheVariants.{OutOfMemory, Refused}

-- what comes of a happening in a fabric
abbrev pub follows : World → Result Happening Fault → Result Outcome Fault
follows w r = r >>= (λ h. Ok (at_gateways w h))

pub ran : (w v : World) (line : Line) (r : Result Happening Fault) (new : Gateways) (text : Bytes) → run w line ≡ follows v r → DoesHappen r new [] text → Runs w line (record v { gateways = new }) [] text
ran w v line (Ok h) new text is x = record { outcome = at_gateways v h; does = is; leads = ap (λ gs. record v { gateways = gs }) x.leads; writes = x.writes }
ran w v line (Err why) new text is x = absurd x

-- the line is an event at a gateway
abbrev pub IsEvent : Line → Bytes → Event → Type 0
IsEvent line g e = (w : World) → run w line ≡ follows w (event_at w.gateways g e)

pub does : (w : World) (stopped : Bool) (new : Gateways) (line : Line) (g : Bytes) (e : Event) (text : Bytes) (answer : Result ⊤ FabricFault) → IsEvent line g e
    → OnOk answer (DoesHappen (event_at w.gateways g e) new [] text) → IfErr answer (λ f. OrMemory (refusal_of f) (λ why. (event_at w.gateways g e ≡ Err why) × (new ≡ w.gateways)))
    → Does (record { world = w; stopped = stopped }) line (record { world = record w { gateways = new }; stopped = stopped }) text answer
does w stopped new line g e text (Ok done) is ok refused = (ran w w line (event_at w.gateways g e) new text (is w) ok, refl)
does w stopped new line g e text (Err OutOfMemory) is ok refused = refl
does w stopped new line g e text (Err (Refused word reason)) is ok refused =
    (is w ∙ ap (follows w) refused.0, ap (λ gs. record { world = record w { gateways = gs }; stopped = stopped }) refused.1)
