-- What is refused changes nothing.
use Rattle.std.proofs.Common.{◌≡◌, ℕ, Bool, true, false, cond, ◌||◌, [], Option, Some, None, is_some, Result, Ok, Err, refl, sym, ap, ◌∙◌}
use Rattle.std.specs.Prelude.{⊤, is_err}
use Rattle.serde_json.specs.Data.{Data}
use Rattle.vtep_base.specs.Reading.{Bytes}
use Rattle.vtep_base.specs.Maps as maps
use Rattle.vtep_base.specs.declared.words.Word.{Word}
use Rattle.rpc_framing.specs.Streams.{fed}
use Rattle.rpc_framing.specs.Pieces.{come}
use Rattle.vtep_rows.specs.declared.soundness.Rule.{Rule}
use Rattle.local_tables.specs.Followed.{Committed}
use Rattle.transact_profile.specs.Meaning.{Outcome, means}
use Rattle.transact_profile.specs.Transaction.{ops_in}
use Rattle.transact_profile.specs.Finish.{finished}
use Rattle.ether_frames.specs.declared.FrameFault.{FrameFault}
use Rattle.ether_frames.specs.Frames.{frame_of}
use Rattle.forward_program.specs.declared.hops.Admission.{Admission}
use Rattle.forward_program.specs.declared.hops.Admission.TheVariants as enter
use Rattle.forward_program.specs.Hop.{admission}
use Rattle.forward_program.specs.declared.hops.Origin.TheVariants as origin
use Rattle.forward_program.specs.Readings.{own_ip}
use Rattle.forward_program.specs.Sent.{Sent}
use Rattle.vtep_gateway.specs.declared.Reason.{Reason}
use Rattle.vtep_gateway.specs.declared.Event.{Event}
use Rattle.vtep_gateway.specs.declared.Event.TheVariants as event
use Rattle.vtep_gateway.specs.declared.EventRefused.{EventRefused}
use Rattle.vtep_gateway.specs.declared.EventRefused.TheVariants.{NoSession, NoPort}
use Rattle.vtep_gateway.specs.Vtep.{Vtep}
use Rattle.vtep_gateway.specs.Commit.{commit_of, changed}
use Rattle.vtep_gateway.specs.Learning.{Seen, with_source, aged}
use Rattle.vtep_gateway.specs.Gateway.{Gateway, Step, nothing, refused}
use Rattle.vtep_gateway.specs.Methods.{only, ended, fails, transact_in, in_database}
use Rattle.vtep_gateway.specs.Sessions.{stream_of, take_all}
use Rattle.vtep_gateway.specs.Ports.{port_named, port_refusal, with_port, without_port}
use Rattle.vtep_gateway.specs.Frames.{ways, way, why_nowhere, sent_along, sent_unless, entered, frame_step}
use Rattle.vtep_gateway.specs.Moves.{step, hung_up, settled, port_unless, unport_by}

-- ---- events

abbrev Stays : Gateway → Step → Type 0
Stays g s = (why : EventRefused) → s.answer.refused ≡ Some why → s.gateway ≡ g

quiet_stays : (g : Gateway) (s : Step) → s.answer.refused ≡ None → Stays g s
quiet_stays g s quiet why is = let t : ◌≡◌ {A = Option EventRefused} None (Some why) = sym quiet ∙ is in absurd (cc)

port_stays : (g : Gateway) (name : Bytes) (o : Option EventRefused) → Stays g (port_unless g name o)
port_stays g name None = quiet_stays g (settled g (changed g.vtep (with_port g.vtep.rows name) g.vtep.learned)) refl
port_stays g name (Some why) = λ w e. refl

unport_stays : (g : Gateway) (o : Option ℕ) → Stays g (unport_by g o)
unport_stays g None = λ w e. refl
unport_stays g (Some id) = quiet_stays g (settled g (changed g.vtep (without_port g.vtep.rows id) g.vtep.learned)) refl

abbrev closes : Gateway → ℕ → Step
closes g s = record { gateway = hung_up g s; answer = nothing }

hangup_stays : (g : Gateway) (s : ℕ) (b : Bool) → Stays g (cond b (closes g s) (refused g NoSession))
hangup_stays g s true = quiet_stays g (closes g s) refl
hangup_stays g s false = λ w e. refl

-- a frame that goes its way is not refused, and neither is one that goes nowhere
sent_quiet : (why : Option Reason) (sent : Sent) → (sent_unless why sent).refused ≡ None
sent_quiet None sent = refl
sent_quiet (Some why) sent = refl

entered_quiet : (g : Gateway) (port : Bytes) (vlan : ℕ) (inner : Bytes) (a : Admission) → (entered g port vlan inner a).answer.refused ≡ None
entered_quiet g port vlan inner enter.Unbound = refl
entered_quiet g port vlan inner enter.Denied = refl
entered_quiet g port vlan inner (enter.To switch) =
    let s : Seen = with_source g.vtep switch port vlan inner in
    let w = way s.vtep (origin.Port port vlan) inner in
    sent_quiet (why_nowhere w.outcome) (sent_along (own_ip s.vtep.rows) w inner)

frame_quiet : (g : Gateway) (port : Bytes) (f : Result (ℕ × Bytes) FrameFault) → (frame_step g port f).answer.refused ≡ None
frame_quiet g port (Ok f) = entered_quiet g port f.0 f.1 (admission (ways g.vtep) (port, f.0) f.1)
frame_quiet g port (Err fault) = refl

frame_stays : (g : Gateway) (port bytes : Bytes) (b : Bool) → Stays g (cond b (frame_step g port (frame_of bytes)) (refused g NoPort))
frame_stays g port bytes true = quiet_stays g (frame_step g port (frame_of bytes)) (frame_quiet g port (frame_of bytes))
frame_stays g port bytes false = λ w e. refl

pub refused_stays : (g : Gateway) (e : Event) (why : EventRefused) → (step g e).answer.refused ≡ Some why → (step g e).gateway ≡ g
refused_stays g (event.Bytes s piece) = quiet_stays g (step g (event.Bytes s piece)) refl
refused_stays g (event.Hangup s) = hangup_stays g s (maps.has g.streams s)
refused_stays g (event.Port name) = port_stays g name (port_refusal g.vtep.rows name)
refused_stays g (event.Unport name) = unport_stays g (port_named g.vtep.rows name)
refused_stays g (event.Frame port bytes) = frame_stays g port bytes (is_some (port_named g.vtep.rows port))
refused_stays g (event.Underlay bytes) = λ why e. refl
refused_stays g (event.Age seconds) = quiet_stays g (settled g (aged g.vtep seconds)) refl

-- ---- transactions

leaves_all : (v : Vtep) (o : Outcome) (failed : Bool) (x : Result Committed Rule) → failed || is_err x ≡ true → (cond failed (only v (Ok (finished o.results None))) (ended v o.results x)).vtep ≡ v
leaves_all v o true x h = refl
leaves_all v o false (Ok c) h = absurd (cc)
leaves_all v o false (Err rule) h = refl

pub failed_stays : (v : Vtep) (params : Data) → fails v (means (ops_in params) v.rows) ≡ true → (transact_in v params (in_database params)).vtep ≡ v
failed_stays v params h = by (in_database params)
  where
    by : (d : Result ⊤ Word) → (transact_in v params d).vtep ≡ v
    by (Ok _) = let o : Outcome = means (ops_in params) v.rows in leaves_all v o o.failed (commit_of v o.rows v.learned) h
    by (Err w) = refl

-- ---- pieces

pub unfinished_stays : (g : Gateway) (s : ℕ) (piece : Bytes) → (come (fed (stream_of g.streams s) piece)).messages ≡ [] → (step g (event.Bytes s piece)).gateway.vtep ≡ g.vtep
unfinished_stays g s piece none = ap (λ ms. (take_all g.vtep s ms).vtep) none
