-- The gateway that a packet comes to.
use Rattle.std.proofs.Common.{◌≡◌, inl, inr, Bool, true, false, cond, List, [], ◌∷◌, ◌++◌, Option, Some, None, find, option_map, refl, sym, ap, subst, ◌∙◌}
use Rattle.std.specs.Cmp.Lexicographic.{nat_list_cmp_total}
use Rattle.vtep_base.specs.Reading.{Bytes}
use Rattle.vtep_base.specs.Maps as maps
use Rattle.vtep_gateway.specs.Gateway.{Gateway, Answer}
use Rattle.vtep_gateway.specs.Moves as moves
use Rattle.vtep_gateway.specs.declared.Event.TheVariants as event
use Rattle.forward_program.specs.Built.{IsIn}
use Rattle.forward_program.proofs.MapLists.{in_get}
use Rattle.fabric_world.specs.Outputs.{Lost, outputs_text}
use Rattle.fabric_world.specs.Happenings.{Gateways, has_ip, destination, carried_to, carried, happened, answer_outputs}
use Rattle.vtep_fabric.specs.Fabrics.{Took, Happens}
use Rattle.vtep_fabric.proofs.Happen.{takes}

abbrev Entry : Type 0
Entry = Bytes × Gateway

same_some : {A : Type 0} (a b : A) → Some a ≡ Some b → a ≡ b
same_some a b e = cc

-- what is found is there
found_in : (test : Entry → Bool) (es : List Entry) (e : Entry) → find test es ≡ Some e → IsIn e es
found_in test [] e is = cc
found_in test (d ∷ es) e is = by (test d) (found_in test es e) is
  where
    by : (b : Bool) → (find test es ≡ Some e → IsIn e es) → cond b (Some d) (find test es) ≡ Some e → IsIn e (d ∷ es)
    by true rest found = inl (sym (same_some d e found))
    by false rest found = inr (rest found)

-- the address is nobody's
pub lost : (gs : Gateways) (packet before after : Bytes) → option_map (λ e. e.0) (find (has_ip (destination packet)) gs.list) ≡ None
    → after ≡ before ++ outputs_text (Lost (destination packet) ∷ []) → Happens (carried gs packet) gs before after
lost gs packet before after none written = by (find (has_ip (destination packet)) gs.list) none
  where
    by : (o : Option Entry) → option_map (λ e. e.0) o ≡ None → Happens (carried_to gs packet o) gs before after
    by None is = record { leads = refl; writes = written }
    by (Some e) is = cc

-- the gateway of this name has the address
pub there : (gs : Gateways) (test : Entry → Bool) (name : Bytes) → option_map (λ e. e.0) (find test gs.list) ≡ Some name → (gateway : Gateway) × (find test gs.list ≡ Some (name, gateway)) × (maps.get gs name ≡ Some gateway)
there gs test name is = by (find test gs.list) refl is
  where
    by : (o : Option Entry) → find test gs.list ≡ o → option_map (λ e. e.0) o ≡ Some name → (gateway : Gateway) × (find test gs.list ≡ Some (name, gateway)) × (maps.get gs name ≡ Some gateway)
    by None found named = cc
    by (Some e) found named =
        let same : e.0 ≡ name = same_some e.0 name named in
        let entry : e ≡ (name, e.1) = λ i. (same i, e.1) in
        (e.1, found ∙ ap Some entry, in_get nat_list_cmp_total gs name e.1 (subst (λ d. IsIn d gs.list) entry (found_in test gs.list e found)))

pub comes : (gs mid : Gateways) (packet name : Bytes) (a : Answer) (before after : Bytes) → option_map (λ e. e.0) (find (has_ip (destination packet)) gs.list) ≡ Some name
    → Took gs name (event.Underlay packet) mid a → after ≡ before ++ outputs_text (answer_outputs name (event.Underlay packet) a) → Happens (carried gs packet) mid before after
comes gs mid packet name a before after is t written =
    let at = there gs (has_ip (destination packet)) name is in
    let same : at.0 ≡ t.before = same_some at.0 t.before (sym at.2 ∙ t.found) in
    let step = ap (λ g. happened gs name (event.Underlay packet) (moves.step g (event.Underlay packet))) same in
    let to : carried gs packet ≡ happened gs name (event.Underlay packet) (moves.step t.before (event.Underlay packet)) = ap (carried_to gs packet) at.1 ∙ step in
    subst (λ h. Happens h mid before after) (sym to) (takes gs mid name (event.Underlay packet) a before after t written)

pub not_absent : (gs : Gateways) (test : Entry → Bool) (name : Bytes) → option_map (λ e. e.0) (find test gs.list) ≡ Some name → maps.get gs name ≡ None → ⊥
not_absent gs test name is none = let at = there gs test name is in let clash : Some at.0 ≡ None = sym at.2 ∙ none in cc
