-- In every state that lines lead to, each gateway has what one always has.
use Rattle.std.proofs.Common.{◌≡◌, ◌<◌, arith, Bool, true, false, cond, List, [], ◌∷◌, ◌++◌, Option, Some, None, Result, Ok, refl, sym, subst, ◌∙◌}
use Rattle.std.specs.Prelude.{not, nat_le, nat_lt, find}
use Rattle.std.specs.List.{list_any, list_all}
use Rattle.std.specs.Ordering.{eq_by_cmp}
use Rattle.std.specs.Cmp.Lexicographic.{nat_list_cmp_total}
use Rattle.std.proofs.lemmas.Bool.Decides.{nat_tests}
use Rattle.vtep_base.specs.Chains.{◌>>=◌}
use Rattle.vtep_base.specs.Reading.{Bytes}
use Rattle.vtep_base.specs.Maps as maps
use Rattle.vtep_base.specs.declared.answers.LineReason.TheVariants.{Unknown, Repeated, Limit, Use}
use Rattle.vtep_rows.proofs.Entries.{same_some, both}
use Rattle.forward_program.proofs.MapLists.{in_get}
use Rattle.vtep_gateway.specs.Gateway.{Gateway, Step, new_gateway}
use Rattle.vtep_gateway.specs.Moves as moves
use Rattle.vtep_gateway.specs.Good.{IsGood}
use Rattle.vtep_gateway.specs.Settled.{IsEvent}
use Rattle.vtep_gateway.specs.declared.Event.{Event}
use Rattle.vtep_gateway.specs.declared.Event.TheVariants as event
use Rattle.vtep_gateway.proofs.Settling.{opening_good, step_good}
use Rattle.fabric_world.specs.declared.Fault.{Fault}
use Rattle.fabric_world.specs.declared.Line.{Line}
use Rattle.fabric_world.specs.declared.Line.TheVariants as line
use Rattle.fabric_world.specs.Intentions.{bytes_cmp, Intention, refuse_if, intended}
use Rattle.fabric_world.specs.Installer.{Peers, operations, request_of}
use Rattle.fabric_world.specs.Happenings.{Gateways, Happening, then_happens, known, accepted, happened, has_ip, destination, carried_to, carried, carried_each, event_at, asked, install_at, install_each, settled, peers_of}
use Rattle.fabric_world.specs.Outputs.{Settled, Shown}
use Rattle.fabric_world.specs.World.{World, Outcome, start, silent, at_gateways, touched, most_gateways, shown_at, run}
use Rattle.fabric_world.specs.ReadLines.{AreBytes, IsLine}
use Rattle.fabric_world.specs.Delivery.{Leads}
use Rattle.fabric_world.proofs.Lists.{found_in}
use Rattle.fabric_world.proofs.Steps.{same_ok, bind_ok, is_there, past, is_accepted}

abbrev pub AreGood : Gateways → Type 0
AreGood gs = (g : Bytes) (gateway : Gateway) → maps.get gs g ≡ Some gateway → IsGood gateway.vtep.rows gateway.vtep.learned

good_with : (gs : Gateways) (g : Bytes) (gateway : Gateway) → AreGood gs → IsGood gateway.vtep.rows gateway.vtep.learned → AreGood (maps.insert gs g gateway)
good_with gs g gateway all this q other is = by (eq_by_cmp bytes_cmp q g) (sym (maps.get-insert nat_list_cmp_total gs g gateway q) ∙ is)
  where
    by : (t : Bool) → cond t (Some gateway) (maps.get gs q) ≡ Some other → IsGood other.vtep.rows other.vtep.learned
    by true e = subst (λ (x : Gateway). IsGood x.vtep.rows x.vtep.learned) (same_some gateway other e) this
    by false e = all q other e

-- ---- events

event_keeps : (gs : Gateways) (g : Bytes) (e : Event) (gateway : Gateway) → AreGood gs → maps.get gs g ≡ Some gateway → IsEvent e → AreGood (happened gs g e (moves.step gateway e)).gateways
event_keeps gs g e gateway all at is = good_with gs g (moves.step gateway e).gateway all (step_good gateway e is (all g gateway at))

carried_keeps : (gs : Gateways) (packet : Bytes) → AreGood gs → AreGood (carried gs packet).gateways
carried_keeps gs packet all = by (find (has_ip (destination packet)) gs.list) refl
  where
    by : (o : Option (Bytes × Gateway)) → find (has_ip (destination packet)) gs.list ≡ o → AreGood (carried_to gs packet o).gateways
    by None is = all
    by (Some e) is = event_keeps gs e.0 (event.Underlay packet) e.1 all (in_get nat_list_cmp_total gs e.0 e.1 (found_in (has_ip (destination packet)) gs.list e is)) tt

each_keeps : (packets : List Bytes) (gs : Gateways) → AreGood gs → AreGood (carried_each gs packets).gateways
each_keeps [] gs all = all
each_keeps (packet ∷ packets) gs all = each_keeps packets (carried gs packet).gateways (carried_keeps gs packet all)

-- what follows an event that is accepted
abbrev pub follows : Gateways → Bytes → Event → Step → Happening
follows gs g e s = then_happens (happened gs g e s) (λ hs. carried_each hs s.answer.sent.packets)

abbrev ok : {A : Type 0} → A → Result A Fault
ok a = Ok a

event_at_keeps : (gs : Gateways) (g : Bytes) (e : Event) (h : Happening) → AreGood gs → IsEvent e → event_at gs g e ≡ ok h → AreGood h.gateways
event_at_keeps gs g e h all is taken =
    let k = bind_ok (known gs g) (λ gateway. accepted (moves.step gateway e) >>= (λ s. ok (follows gs g e s))) h taken in
    let at = is_there (record { word = 1; reason = Unknown }) (maps.get gs g) k.0 k.1 in
    let a = bind_ok (accepted (moves.step k.0 e)) (λ s. ok (follows gs g e s)) h k.2 in
    let same = is_accepted (moves.step k.0 e).answer.refused (moves.step k.0 e) a.0 a.1 in
    let kept : AreGood (happened gs g e a.0).gateways = subst (λ (s : Step). AreGood (happened gs g e s).gateways) same (event_keeps gs g e k.0 all at is) in
    subst (λ (x : Happening). AreGood x.gateways) (same_ok (follows gs g e a.0) h a.2) (each_keeps a.0.answer.sent.packets (happened gs g e a.0).gateways kept)

-- ---- settling

asked_keeps : (gs : Gateways) (g : Bytes) (o : Option Gateway) (request : Option Bytes) → maps.get gs g ≡ o → AreGood gs → AreGood (asked gs g o request).gateways
asked_keeps gs g None None at all = all
asked_keeps gs g (Some gateway) None at all = all
asked_keeps gs g None (Some request) at all = all
asked_keeps gs g (Some gateway) (Some request) at all = event_keeps gs g (event.Bytes 0 request) gateway all at tt

install_keeps : (i : Intention) (peers : Peers) (gs : Gateways) (g : Bytes) → AreGood gs → AreGood (install_at i peers gs g).gateways
install_keeps i peers gs g all = asked_keeps gs g (maps.get gs g) (request_of (operations i peers g)) refl all

install_each_keeps : (i : Intention) (peers : Peers) (names : List Bytes) (gs : Gateways) → AreGood gs → AreGood (install_each i peers gs names).gateways
install_each_keeps i peers [] gs all = all
install_each_keeps i peers (g ∷ names) gs all = install_each_keeps i peers names (install_at i peers gs g).gateways (install_keeps i peers gs g all)

-- ---- lines

pub each_small : (bytes : Bytes) → AreBytes bytes → list_all (λ b. nat_lt b 256) bytes ≡ true
each_small [] h = refl
each_small (b ∷ bytes) h = both (nat_lt b 256) (list_all (λ c. nat_lt c 256) bytes) (let small : b < 256 = h.0 in grind (arith, nat_tests, small)) (each_small bytes h.1)

to_outcome : (x : Outcome) (o : Outcome) → ok x ≡ ok o → AreGood x.world.gateways → AreGood o.world.gateways
to_outcome x o e all = subst (λ (y : Outcome). AreGood y.world.gateways) (same_ok x o e) all

by_event : (w v : World) (g : Bytes) (e : Event) (o : Outcome) → AreGood w.gateways → IsEvent e → (event_at w.gateways g e >>= (λ h. ok (at_gateways v h))) ≡ ok o → AreGood o.world.gateways
by_event w v g e o all is taken =
    let h = bind_ok (event_at w.gateways g e) (λ h. ok (at_gateways v h)) o taken in
    to_outcome (at_gateways v h.0) o h.2 (event_at_keeps w.gateways g e h.0 all is h.1)

line_keeps : (w : World) (l : Line) (o : Outcome) → IsLine l → AreGood w.gateways → run w l ≡ ok o → AreGood o.world.gateways
line_keeps w (line.Gateway l) o is all taken =
    let done : Outcome = silent (record w { gateways = maps.insert w.gateways l.g (new_gateway l.g l.ip) }) in
    let third = past (maps.has w.gateways l.g) 1 Repeated (λ _. refuse_if (list_any (has_ip l.ip) w.gateways.list) 2 Repeated >>= (λ _. refuse_if (nat_le most_gateways (maps.size w.gateways)) 0 Limit >>= (λ _. ok done))) o taken in
    let second = past (list_any (has_ip l.ip) w.gateways.list) 2 Repeated (λ _. refuse_if (nat_le most_gateways (maps.size w.gateways)) 0 Limit >>= (λ _. ok done)) o third in
    let first = past (nat_le most_gateways (maps.size w.gateways)) 0 Limit (λ _. ok done) o second in
    to_outcome done o first (good_with w.gateways l.g (new_gateway l.g l.ip) all (opening_good l.g l.ip is.0 is.1))
line_keeps w (line.Port l) o is all taken = by_event w w l.g (event.Port l.p) o all is.1 taken
line_keeps w (line.Unport l) o is all taken = by_event w w l.g (event.Unport l.p) o all tt taken
line_keeps w (line.Intend l) o is all taken =
    let i = bind_ok (intended (maps.has w.gateways) w.intention l) (λ i. ok (silent (record w { intention = i }))) o taken in
    to_outcome (silent (record w { intention = i.0 })) o i.2 all
line_keeps w (line.Frame l) o is all taken = by_event w w l.g (event.Frame l.p l.hex) o all (is.1, each_small l.hex is.2) taken
line_keeps w (line.Underlay l) o is all taken = by_event w w l.g (event.Underlay l.hex) o all tt taken
line_keeps w (line.Age l) o is all taken = by_event w w l.g (event.Age l.seconds) o all tt taken
line_keeps w (line.Rpc l) o is all taken = by_event w (touched w) l.g (event.Bytes l.session l.hex) o all tt taken
line_keeps w (line.Hangup l) o is all taken = by_event w w l.g (event.Hangup l.session) o all tt taken
line_keeps w (line.Settle l) o is all taken =
    let h : Happening = settled w.intention w.gateways in
    let done : Outcome = record { world = touched (record w { gateways = h.gateways }); output = h.output ++ (Settled ∷ []) } in
    let peers : Peers = peers_of w.gateways in
    to_outcome done o (past (not w.untouched) 0 Use (λ _. ok done) o taken) (install_each_keeps w.intention peers (maps.keys peers) w.gateways all)
line_keeps w (line.Show l) o is all taken =
    let gateway = bind_ok (known w.gateways l.g) (λ gateway. ok (record { world = w; output = Shown (shown_at gateway) ∷ [] })) o taken in
    to_outcome (record { world = w; output = Shown (shown_at gateway.0) ∷ [] }) o gateway.2 all

lines_keep : (lines : List Line) (w new : World) → AreGood w.gateways → Leads w lines new → AreGood new.gateways
lines_keep [] w new all is = subst (λ (x : World). AreGood x.gateways) (sym is) all
lines_keep (l ∷ lines) w new all (o, named, taken, rest) = lines_keep lines o.world new (line_keeps w l o named all taken) rest

none_yet : AreGood start.gateways
none_yet g gateway at = absurd (cc)

pub reached_good : (lines : List Line) (w : World) → Leads start lines w → AreGood w.gateways
reached_good lines w is = lines_keep lines start w none_yet is
