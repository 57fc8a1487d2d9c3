-- What is said of the delivery of frames in the states that scripts reach.
use Rattle.std.specs.Prelude.{◌≡◌, ◌↔◌, Bool, true, false, if◌then◌else◌, List, [], ◌∷◌, ◌++◌, map, Some, Ok}
use Rattle.std.specs.declared.cmp.Ordering.TheVariants.{Less}
use Rattle.vtep_base.specs.Reading.{Bytes}
use Rattle.vtep_base.specs.Maps as maps
use Rattle.vtep_base.specs.declared.bindings.Binding.{Binding}
use Rattle.vtep_base.specs.declared.shapes.Direction.TheVariants.{Ingress}
use Rattle.ether_frames.specs.Frames.{Carries}
use Rattle.vtep_rows.specs.Rows.{Rows, IsRows}
use Rattle.vtep_rows.specs.Sound.{Sound}
use Rattle.forward_program.specs.Built as built
use Rattle.forward_program.specs.Built.{IsIn, AreApart}
use Rattle.vtep_gateway.specs.declared.Reason.TheVariants.{Denied}
use Rattle.vtep_gateway.specs.Gateway.{Gateway}
use Rattle.vtep_gateway.specs.Monitors.{told_all}
use Rattle.fabric_world.specs.declared.Line.{Line}
use Rattle.fabric_world.specs.declared.Line.TheVariants.{Frame}
use Rattle.fabric_world.specs.Intentions.{binding_cmp}
use Rattle.fabric_world.specs.Happenings.{messages, fulls}
use Rattle.fabric_world.specs.Outputs.{Output, Dropped, Out}
use Rattle.fabric_world.specs.World.{World, Outcome, start, run}
use Rattle.fabric_world.specs.Logical.{logical_of, source, MayPass, Delivers, Teaches, switch_of}
use Rattle.fabric_world.specs.ReadLines.{AreBytes, IsLine}
use Rattle.fabric_world.specs.Settled.{Settled}

-- lines that are read and accepted lead from one state to another
abbrev pub Leads : World → List Line → World → Type 0
Leads w [] new = new ≡ w
Leads w (line ∷ lines) new = (o : Outcome) × IsLine line × (run w line ≡ Ok o) × Leads o.world lines new

-- there is one gateway
abbrev pub IsAlone : List (Bytes × Gateway) → Type 0
IsAlone (e ∷ []) = Unit {0}
IsAlone _ = ⊥

-- the access lists let a frame not in
abbrev pub denials : Bytes → Bool → List Output
denials g denied = if denied then Dropped g Denied ∷ [] else []

-- a frame leaves at a binding, as bytes
abbrev pub out_at : Binding × Bytes → Output
out_at o = Out o.0.gateway o.0.port o.1

abbrev pub IsBelow : Binding → List (Binding × Bytes) → Type 0
IsBelow b [] = Unit {0}
IsBelow b (o ∷ os) = (binding_cmp b o.0 ≡ Less) × IsBelow b os

-- by gateway, port and VLAN, each binding once
abbrev pub InOrder : List (Binding × Bytes) → Type 0
InOrder [] = Unit {0}
InOrder (o ∷ os) = IsBelow o.0 os × InOrder os

-- what is written for a frame that enters at b is what the gateway's monitors are told of how its rows differ, that it could not
-- learn the source where this is so, that the lists let it not in where this is so, and then the frame's deliveries by what was
-- known before, each once and in order; and the source of a frame that is let in is learnt
pub record IsDelivered (w new : World) (b : Binding) (bytes : Bytes) (written : List Output) : Type 0 where
  pub before : Gateway
  pub after : Gateway
  pub was : maps.get w.gateways b.gateway ≡ Some before
  pub is : maps.get new.gateways b.gateway ≡ Some after
  pub full : Bool
  pub denied : Bool
  pub outs : List (Binding × Bytes)
  pub written_so : written ≡ messages b.gateway (told_all before.vtep.rows after.vtep.rows before.vtep.monitors) ++ (fulls b.gateway full ++ (denials b.gateway denied ++ map out_at outs))
  pub in_order : InOrder outs
  pub each_once : AreApart outs
  pub lets_in : (inner : Bytes) → Carries bytes b.vlan inner → (denied ≡ false) ↔ MayPass (logical_of w) Ingress inner b
  pub exact : (c : Binding) (out : Bytes) → IsIn (c, out) outs ↔ Delivers (logical_of w) b bytes c out
  pub stays : denied ≡ true → new ≡ w
  pub learns : denied ≡ false → (s inner : Bytes) → Carries bytes b.vlan inner → IsIn (s, b) (logical_of w).bindings → Teaches (logical_of w) (logical_of new) s b (source inner) full

-- a frame that enters at b is accepted and delivered
pub record IsRun (w : World) (b : Binding) (bytes : Bytes) : Type 0 where
  pub world : World
  pub output : List Output
  pub runs : run w (Frame (record { g = b.gateway; p = b.port; hex = bytes })) ≡ Ok (record { world = world; output = output })
  pub delivered : IsDelivered w world b bytes output

-- in every state that lines lead to, where there is one gateway and the tables are settled: a frame that carries something on the
-- VLAN of a binding is delivered
abbrev pub SettledDelivers : Type 0
SettledDelivers = (lines : List Line) (w : World) (b : Binding) (bytes inner s : Bytes) → Leads start lines w → IsAlone w.gateways.list → Settled w
    → AreBytes bytes → Carries bytes b.vlan inner → IsIn (s, b) (logical_of w).bindings → IsRun w b bytes

-- bindings of a gateway are of one switch in the logical network exactly where they name one row of Logical_Switch
abbrev pub SwitchesAreRows : Type 0
SwitchesAreRows = (r : Rows) (b c : built.Binding) → IsRows r → Sound r → IsIn b (built.bindings r) → IsIn c (built.bindings r)
    → (switch_of r b.switch ≡ switch_of r c.switch) ↔ (b.switch ≡ c.switch)
