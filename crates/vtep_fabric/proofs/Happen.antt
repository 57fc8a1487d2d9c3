-- What happens at gateways one after the other, and is written.
use Rattle.std.proofs.Common.{◌≡◌, List, [], ◌++◌, Some, None, Result, Err, refl, sym, ap, subst, ◌∙◌, append_assoc, append-nil}
use Rattle.std.proofs.lemmas.Grind.{flat_map-append}
use Rattle.std.proofs.lemmas.Map.Lookups.{exact_bytes}
use Rattle.std.specs.Cmp.Lexicographic.{nat_list_cmp_total}
use Rattle.vtep_base.specs.Reading.{Bytes}
use Rattle.vtep_base.specs.Maps as maps
use Rattle.vtep_base.specs.declared.answers.LineReason.TheVariants.{Unknown}
use Rattle.vtep_gateway.specs.Gateway.{Gateway, Answer}
use Rattle.vtep_gateway.specs.Moves as moves
use Rattle.vtep_gateway.specs.declared.Event.{Event}
use Rattle.vtep_gateway.specs.declared.Event.TheVariants as event
use Rattle.vtep_gateway.specs.declared.EventRefused.{EventRefused}
use Rattle.vtep_gateway.proofs.Refused.{refused_stays}
use Rattle.fabric_world.specs.declared.Fault.{Fault}
use Rattle.fabric_world.specs.Outputs.{Output, output_text, outputs_text}
use Rattle.fabric_world.specs.Happenings.{Gateways, Happening, quiet, then_happens, known, fault_of, answer_outputs, happened, carried_each, event_at, asked}
use Rattle.vtep_fabric.specs.Fabrics.{Took, Happens, DoesHappen}
use Rattle.vtep_fabric.proofs.Rosters.{insert-same}

-- what is still to come, behind what was written, is the whole
pub record Going (whole rest : Happening) (before now : Bytes) : Type 0 where
  pub written : List Output
  pub leads : whole.gateways ≡ rest.gateways
  pub output : whole.output ≡ written ++ rest.output
  pub text : now ≡ before ++ outputs_text written

pub begins : (h : Happening) (text : Bytes) → Going h h text text
begins h text = record { written = []; leads = refl; output = refl; text = sym (append-nil text) }

pub goes_on : (whole h : Happening) (next : Gateways → Happening) (gs : Gateways) (before now after : Bytes) → Going whole (then_happens h next) before now → Happens h gs now after → Going whole (next gs) before after
goes_on whole h next gs before now after g x = record {
  written = g.written ++ h.output;
  leads = g.leads ∙ ap (λ hs. (next hs).gateways) (sym x.leads);
  output = g.output ∙ sym (append_assoc g.written h.output (next h.gateways).output) ∙ ap (λ hs. (g.written ++ h.output) ++ (next hs).output) (sym x.leads);
  text =
      x.writes ∙ ap (λ t. t ++ outputs_text h.output) g.text ∙ append_assoc before (outputs_text g.written) (outputs_text h.output)
      ∙ ap (λ t. before ++ t) (sym (flat_map-append output_text g.written h.output));
}

pub ends : (whole : Happening) (gs : Gateways) (before now : Bytes) → Going whole (quiet gs) before now → Happens whole gs before now
ends whole gs before now g = record { leads = sym g.leads; writes = g.text ∙ ap (λ os. before ++ outputs_text os) (sym (g.output ∙ append-nil g.written)) }

pub happens_then : (h : Happening) (next : Gateways → Happening) (mid new : Gateways) (t u v : Bytes) → Happens h mid t u → Happens (next mid) new u v → Happens (then_happens h next) new t v
happens_then h next mid new t u v x y = record {
  leads = y.leads ∙ ap (λ hs. (next hs).gateways) x.leads;
  writes =
      y.writes ∙ ap (λ s. s ++ outputs_text (next mid).output) x.writes ∙ append_assoc t (outputs_text h.output) (outputs_text (next mid).output)
      ∙ ap (λ s. t ++ s) (sym (flat_map-append output_text h.output (next mid).output)) ∙ ap (λ hs. t ++ outputs_text (h.output ++ (next hs).output)) x.leads;
}

-- ---- an event that a gateway takes

abbrev err : Fault → Result Happening Fault
err why = Err why

pub takes : (old mid : Gateways) (g : Bytes) (e : Event) (a : Answer) (before after : Bytes) (t : Took old g e mid a) → after ≡ before ++ outputs_text (answer_outputs g e a)
    → Happens (happened old g e (moves.step t.before e)) mid before after
takes old mid g e a before after t written = record {
  leads = t.leads ∙ ap (λ s. maps.insert old g s.gateway) (sym t.stepped);
  writes = written ∙ ap (λ s. before ++ outputs_text (answer_outputs g e s.answer)) (sym t.stepped);
}

pub accepts : (old mid new : Gateways) (g : Bytes) (e : Event) (a : Answer) (t u v : Bytes) → Took old g e mid a → a.refused ≡ None → u ≡ t ++ outputs_text (answer_outputs g e a)
    → Happens (carried_each mid a.sent.packets) new u v → DoesHappen (event_at old g e) new t v
accepts old mid new g e a t u v took accepted written carried =
    let carry = subst (λ s. Happens (carried_each mid s.answer.sent.packets) new u v) (sym took.stepped) carried in
    let all = happens_then (happened old g e (moves.step took.before e)) (λ hs. carried_each hs (moves.step took.before e).answer.sent.packets) mid new t u v (takes old mid g e a t u took written) carry in
    rw took.found (rw (ap (λ s. s.answer.refused) took.stepped ∙ accepted) all)

pub refuses : (old mid : Gateways) (g : Bytes) (e : Event) (a : Answer) (why : EventRefused) → Took old g e mid a → a.refused ≡ Some why → event_at old g e ≡ err (fault_of why)
refuses old mid g e a why t refused = rw t.found (rw (ap (λ s. s.answer.refused) t.stepped ∙ refused) refl)

pub stays : (old mid : Gateways) (g : Bytes) (e : Event) (a : Answer) (why : EventRefused) → Took old g e mid a → a.refused ≡ Some why → mid ≡ old
stays old mid g e a why t refused =
    let same = sym (ap (λ s. s.gateway) t.stepped) ∙ refused_stays t.before e why (ap (λ s. s.answer.refused) t.stepped ∙ refused) in
    t.leads ∙ ap (maps.insert old g) same ∙ insert-same nat_list_cmp_total exact_bytes old g t.before t.found

pub unknown : (old : Gateways) (g : Bytes) (e : Event) → maps.get old g ≡ None → event_at old g e ≡ err (record { word = 1; reason = Unknown })
unknown old g e none = rw none refl

-- a gateway that is asked for what a request says
pub asks : (old mid : Gateways) (g request : Bytes) (a : Answer) (before after : Bytes) → Took old g (event.Bytes 0 request) mid a → after ≡ before ++ outputs_text (answer_outputs g (event.Bytes 0 request) a)
    → Happens (asked old g (maps.get old g) (Some request)) mid before after
asks old mid g request a before after t written =
    subst (λ o. Happens (asked old g o (Some request)) mid before after) (sym t.found) (takes old mid g (event.Bytes 0 request) a before after t written)

abbrev pub missing : Gateways → Bytes → Result Gateway Fault
missing gs g = Err (record { word = 1; reason = Unknown })

pub not_known : (gs : Gateways) (g : Bytes) → maps.get gs g ≡ None → known gs g ≡ missing gs g
not_known gs g none = rw none refl
