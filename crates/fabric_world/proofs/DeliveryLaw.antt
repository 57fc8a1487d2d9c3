-- Frames that enter at a binding are delivered, where there is one gateway and the tables are settled.
use Rattle.std.proofs.Common.{◌≡◌, ◌⊎◌, ◌↔◌, inl, inr, ℕ, Bool, true, false, not, cond, ◌&&◌, List, [], ◌∷◌, ◌++◌, map, is_some, Option, Some, None, Result, Ok, refl, sym, ap, subst, ◌∙◌, append-nil}
use Rattle.std.specs.Prelude.{◌==◌}
use Rattle.std.specs.List.{filter, filter_map, flat_map}
use Rattle.std.specs.Option.{option_map}
use Rattle.std.specs.Cmp.{eq_by_cmp_equiv}
use Rattle.std.specs.FinMap.{find}
use Rattle.std.specs.Ordering.{eq_by_cmp}
use Rattle.std.proofs.lemmas.Map.Lookups.{exact_bytes}
use Rattle.std.specs.Cmp.Lexicographic.{nat_list_cmp_total}
use Rattle.vtep_base.specs.Chains.{◌>>=◌, or_refuse}
use Rattle.vtep_base.specs.Reading.{Bytes}
use Rattle.vtep_base.specs.Addresses as addresses
use Rattle.vtep_base.specs.Addresses.{be}
use Rattle.vtep_base.specs.Maps as maps
use Rattle.vtep_base.specs.Texts.{is_name}
use Rattle.vtep_base.specs.declared.answers.LineReason.TheVariants.{Unknown}
use Rattle.vtep_base.specs.declared.bindings.Binding.{Binding}
use Rattle.vtep_base.specs.declared.shapes.Direction.TheVariants.{Ingress, Egress}
use Rattle.ether_frames.specs.declared.fields.Headers.{Headers}
use Rattle.ether_frames.specs.Headers.{headers_of}
use Rattle.ether_frames.specs.Frames.{Carries, frame_of, tagged}
use Rattle.ether_frames.specs.declared.FrameFault.{FrameFault}
use Rattle.ether_frames.proofs.Carried.{read_back}
use Rattle.ovsdb_values.specs.Atoms.{atom_total}
use Rattle.ovsdb_values.specs.declared.atoms.Atom.TheVariants.{Text}
use Rattle.vtep_schema.specs.declared.Table.TheVariants.{PhysicalPort}
use Rattle.vtep_schema.specs.declared.Column.TheVariants.{PortName}
use Rattle.vtep_rows.specs.Row.{atoms_at}
use Rattle.vtep_rows.specs.Rows.{Rows, rows_of}
use Rattle.vtep_rows.specs.Keyed.{holds_only}
use Rattle.vtep_rows.proofs.Entries.{same_some}
use Rattle.vtep_rows.proofs.Kept.{its_contents}
use Rattle.mac_learning.specs.declared.Learnt.{Learnt}
use Rattle.mac_learning.specs.Learning.{entry, found}
use Rattle.forward_program.specs.declared.hops.Origin.TheVariants as origin
use Rattle.forward_program.specs.declared.hops.Admission.{Admission}
use Rattle.forward_program.specs.declared.hops.Admission.TheVariants as enter
use Rattle.forward_program.specs.declared.hops.Outcome.TheVariants.{Done}
use Rattle.forward_program.specs.declared.sent.Out.{Out}
use Rattle.forward_program.specs.Readings.{own_ip}
use Rattle.forward_program.specs.Built as built
use Rattle.forward_program.specs.Built.{IsIn, bindings, acl_rows}
use Rattle.forward_program.specs.Joins.{Port}
use Rattle.forward_program.specs.Hop.{Ways, Way, Listed, nowhere, same_port, may_pass, let_out, admitted, admission, tunnelled, or_else, place_of, ports_to, addresses_to, forwarded, from_port, in_order, port_by, ways_of}
use Rattle.forward_program.specs.Hop as hop
use Rattle.forward_program.specs.Sent.{out_of, packets_of}
use Rattle.forward_program.proofs.HopLaws.{number_itself}
use Rattle.forward_program.proofs.HostLaws.{found_entry, found_address, entry_found}
use Rattle.forward_program.proofs.InLists.{in_either, in_map, map_in}
use Rattle.forward_program.proofs.MapLists.{in_get}
use Rattle.forward_program.proofs.Columns.{text_alone}
use Rattle.forward_program.proofs.RowsIn.{rows_in}
use Rattle.forward_program.proofs.Unique.{binding_of, port_text, bytes_itself}
use Rattle.local_tables.specs.Followed.{is_bound_there}
use Rattle.local_tables.proofs.Members.{all_in}
use Rattle.vtep_gateway.specs.declared.EventRefused.TheVariants.{NoPort}
use Rattle.vtep_gateway.specs.declared.Reason.TheVariants as reason
use Rattle.vtep_gateway.specs.declared.Event.{Event}
use Rattle.vtep_gateway.specs.declared.Event.TheVariants as event
use Rattle.vtep_gateway.specs.Vtep.{Vtep}
use Rattle.vtep_gateway.specs.Gateway.{Gateway, Step, refused}
use Rattle.vtep_gateway.specs.Moves as moves
use Rattle.vtep_gateway.specs.Monitors.{told_all}
use Rattle.vtep_gateway.specs.Ports.{is_named, port_named}
use Rattle.vtep_gateway.specs.Learning.{Seen, with_source}
use Rattle.vtep_gateway.specs.Frames.{way, why_nowhere, sent_along, sent_unless, dropped, entered, frame_step}
use Rattle.vtep_gateway.proofs.ToldNothing.{nothing_told}
use Rattle.vtep_gateway.specs.Good.{IsGood}
use Rattle.fabric_world.specs.declared.Fault.{Fault}
use Rattle.fabric_world.specs.declared.Line.{Line}
use Rattle.fabric_world.specs.declared.Line.TheVariants.{Frame}
use Rattle.fabric_world.specs.Happenings.{Gateways, Happening, then_happens, messages, fulls, accepted, carried_each, event_at, happened}
use Rattle.fabric_world.specs.Outputs.{Output}
use Rattle.fabric_world.specs.Outputs as output
use Rattle.fabric_world.specs.Intentions.{bytes_cmp}
use Rattle.fabric_world.specs.World.{World, at_gateways, run}
use Rattle.fabric_world.specs.Logical.{logical_of, MayPass, Delivers, Owns, Teaches, switch_of, place, member, members, learnt_at, destination, source}
use Rattle.fabric_world.specs.ReadLines.{AreBytes}
use Rattle.fabric_world.specs.Delivery.{IsAlone, denials, out_at, IsDelivered, IsRun, SettledDelivers, SwitchesAreRows}
use Rattle.fabric_world.proofs.Lists.{in_filter, filter_in, some_first}
use Rattle.fabric_world.proofs.Reached.{follows, reached_good}
use Rattle.fabric_world.proofs.Switches.{names_are_rows}
use Rattle.fabric_world.proofs.Facts.{Binds, BindsListed, here, IsQuiet, port_same, place_is, no_flood, told_port, port_told, one_switch, same_lists, bound_is, lists_is}
use Rattle.fabric_world.proofs.Passing.{passes, may_is, passes_so, so_passes}
use Rattle.fabric_world.proofs.Quiet.{settled_quiet}
use Rattle.fabric_world.proofs.SameRows.{built_same, no_changes}
use Rattle.fabric_world.proofs.Taught.{IsTaught, source_taught, found_as_before}
use Rattle.fabric_world.proofs.LearntBindings.{learnt_binds, binds_learnt}
use Rattle.fabric_world.proofs.Alone.{member_in, in_member, owner_in, in_owner}
use Rattle.fabric_world.proofs.Teaching.{teaches}
use Rattle.fabric_world.proofs.Ports.{ordered_is, is_ordered, AreSorted, ordered_sorted, let_sorted, but_sorted, if_sorted, at_port, as_out, outs_in_order, once_in_order}
use Rattle.fabric_world.proofs.Frames.{to_itself, to_another, group_is, source_group_is, source_single}

same_carried : (x y : ℕ × Bytes) → ◌≡◌ {A = Result (ℕ × Bytes) FrameFault} (Ok x) (Ok y) → x ≡ y
same_carried x y e = cc

false_by : (t : Bool) → (t ≡ true → ⊥) → t ≡ false
false_by true n = absurd (n refl)
false_by false n = refl

not_false : (t : Bool) → t ≡ false → not t ≡ true
not_false true e = absurd (cc)
not_false false e = refl

not_true : (t : Bool) → not t ≡ true → t ≡ false
not_true true e = absurd (cc)
not_true false e = refl

unless : {A : Type 0} (b : Bool) (o : Option A) (x : A) → cond b None o ≡ Some x → (b ≡ false) × (o ≡ Some x)
unless true o x e = absurd (cc)
unless false o x e = (refl, e)

abbrev port_of : Binding → Port
port_of b = (b.port, b.vlan)

no_packets : (own : ℕ) (vni : Option ℕ) (inner : Bytes) → packets_of own vni [] inner ≡ []
no_packets own None inner = refl
no_packets own (Some vni) inner = refl

-- ---- the frame at its gateway

module _ (gateway : Gateway) (good : IsGood gateway.vtep.rows gateway.vtep.learned) (quiet : IsQuiet gateway.vtep.rows) (c : built.Binding) (c_in : IsIn c (bindings gateway.vtep.rows))
    (bytes inner : Bytes) (carries : Carries bytes c.vlan inner) (are : AreBytes bytes) where
  abbrev v : Vtep
  v = gateway.vtep

  abbrev r : Rows
  r = v.rows

  abbrev l : List Learnt
  l = v.learned

  abbrev entering : Port
  entering = (c.port, c.vlan)

  abbrev headers : Headers
  headers = headers_of inner

  abbrev dst : ℕ
  dst = headers.destination

  abbrev src : ℕ
  src = hop.source inner

  abbrev itself : Bool
  itself = dst == src

  -- ---- the source is learnt first

  abbrev seen : Seen
  seen = with_source v c.switch c.port c.vlan inner

  abbrev later : List Learnt
  later = seen.vtep.learned

  -- ---- whether the lists let it in

  abbrev let_in : Bool
  let_in = passes r good.settled.rows good.settled.sound quiet headers Ingress (acl_rows c.lists)

  abbrev admitted_if : Bool → Admission
  admitted_if b = cond b (enter.To c.switch) enter.Denied

  -- of that the learnt addresses say nothing
  admission_is : (known : List Learnt) → admission (ways_of (built.built r known)) entering inner ≡ admitted_if let_in
  admission_is known =
      let facts : Ways = ways_of (built.built r known) in
      ap (admitted facts entering headers) (bound_is r known good.settled.rows good.settled.sound quiet c c_in)
      ∙ ap (λ ls. admitted_if (may_pass facts Ingress headers ls)) (lists_is r known good.settled.rows good.settled.sound quiet c c_in)
      ∙ ap admitted_if (may_is r good.settled.rows good.settled.sound quiet headers Ingress known c c_in)

  abbrev new : Learnt
  new = entry c.switch src c.port c.vlan v.clock

  taught : IsTaught v new seen
  taught = source_taught v good c.switch c.port c.vlan inner (source_single bytes inner c.vlan carries are) (binds_learnt r good.settled.rows good.settled.sound c c_in src v.clock)

  -- ---- by what is known then

  abbrev facts : Ways
  facts = ways_of (built.built r later)

  abbrev vni : Option ℕ
  vni = facts.vni c.switch

  -- where the destination is known to be
  abbrev known : Option Learnt
  known = cond (addresses.is_group dst) None (found c.switch dst l)

  abbrev others : List Port
  others = ports_to facts c.switch (Some entering) headers (option_map here known)

  abbrev ports : List Port
  ports = cond itself [] others

  abbrev goes : Way
  goes = record { outcome = Done; ports = ports; addresses = []; vni = vni }

  place_known : itself ≡ false → place_of facts c.switch dst ≡ option_map here known
  place_known away = by (addresses.is_group dst)
    where
      by : (b : Bool) → cond b None (facts.place c.switch dst) ≡ option_map here (cond b None (found c.switch dst l))
      by true = refl
      by false = place_is r later quiet taught.once c.switch dst ∙ ap (option_map here) (found_as_before v new seen taught c.switch dst away)

  no_targets : (b : Bool) → cond b (facts.flood c.switch (Some dst)) [] ≡ []
  no_targets true = no_flood r later quiet c.switch (Some dst)
  no_targets false = refl

  none_tunnelled : (o : Option ℕ) → tunnelled o [] ≡ []
  none_tunnelled None = refl
  none_tunnelled (Some n) = refl

  no_addresses : (o : Option Learnt) → addresses_to facts c.switch vni dst (option_map here o) ≡ []
  no_addresses (Some e) = refl
  no_addresses None =
      ap (tunnelled vni) ((λ i. or_else (no_targets (addresses.is_group dst) i) (facts.flood c.switch None)) ∙ no_flood r later quiet c.switch None)
      ∙ none_tunnelled vni

  chosen : (b : Bool) → itself ≡ b → cond b (nowhere Done vni) (forwarded facts c.switch (Some entering) vni headers) ≡ record { outcome = Done; ports = cond b [] others; addresses = []; vni = vni }
  chosen true e = refl
  chosen false e =
      (λ i. record {
        outcome = Done;
        ports = ports_to facts c.switch (Some entering) headers (place_known e i);
        addresses = addresses_to facts c.switch vni dst (place_known e i);
        vni = vni;
      })
      ∙ ap (λ ips. record { outcome = Done; ports = others; addresses = ips; vni = vni }) (no_addresses known)

  way_is : let_in ≡ true → way seen.vtep (origin.Port c.port c.vlan) inner ≡ goes
  way_is lets =
      ap (λ fs. hop.hop (ways_of fs) (origin.Port c.port c.vlan) inner) (built_same seen.vtep.rows r taught.same later)
      ∙ ap (from_port facts entering headers) (admission_is later ∙ ap admitted_if lets)
      ∙ chosen itself refl

  -- the port is there
  port_there : is_some (port_named r c.port) ≡ true
  port_there =
      let x = binding_of r good.settled.rows good.settled.sound c c_in in
      let alone : atoms_at x.row PortName ≡ Text c.port ∷ [] = text_alone x.row PortName (its_contents r PhysicalPort x.id x.row good.settled.rows x.at) refl c.port (port_text x.row c.port x.named) in
      let named : is_named c.port x.row ≡ true = ap (λ xs. holds_only xs (Text c.port) && true) alone ∙ ap (λ b. b && true) ((eq_by_cmp_equiv atom_total).refl (Text c.port)) in
      some_first (λ row. row.0) (x.id, x.row) (filter (λ row. is_named c.port row.1) (rows_of PhysicalPort r))
      (filter_in (λ row. is_named c.port row.1) (x.id, x.row) (rows_of PhysicalPort r) named (rows_in r PhysicalPort x.id x.row x.at))

  abbrev next : Gateway
  next = record gateway { vtep = seen.vtep }

  abbrev step_by : Way → Step
  step_by w = record { gateway = next; answer = record (sent_unless (why_nowhere w.outcome) (sent_along (own_ip seen.vtep.rows) w inner)) { sends = seen.sends; full = seen.full } }

  abbrev stepped : Step
  stepped = step_by goes

  enters : moves.step gateway (event.Frame c.port bytes) ≡ entered gateway c.port c.vlan inner (admitted_if let_in)
  enters =
      ap (λ b. cond b (frame_step gateway c.port (frame_of bytes)) (refused gateway NoPort)) port_there
      ∙ ap (frame_step gateway c.port) (read_back bytes inner c.vlan carries)
      ∙ ap (entered gateway c.port c.vlan inner) (admission_is l)

  step_is : let_in ≡ true → moves.step gateway (event.Frame c.port bytes) ≡ stepped
  step_is lets = enters ∙ ap (λ b. entered gateway c.port c.vlan inner (admitted_if b)) lets ∙ ap step_by (way_is lets)

  -- one that is not let in
  abbrev kept_out : Step
  kept_out = record { gateway = gateway; answer = dropped reason.Denied }

  denied_is : let_in ≡ false → moves.step gateway (event.Frame c.port bytes) ≡ kept_out
  denied_is shut = enters ∙ ap (λ b. entered gateway c.port c.vlan inner (admitted_if b)) shut

  abbrev goes_out : Listed → Bool
  goes_out b = may_pass facts Egress headers b.1

  -- the binding at which an address is learnt
  abbrev its_binding : Learnt → Listed
  its_binding e = ((e.port, e.vlan), facts.lists (e.port, e.vlan))

  by_known : (o : Option Learnt) → AreSorted (ports_to facts c.switch (Some entering) headers (option_map here o))
  by_known (Some e) = but_sorted entering (let_out facts headers (its_binding e ∷ [])) (let_sorted goes_out (its_binding e ∷ []) (tt, tt))
  by_known None =
      but_sorted entering (let_out facts headers (facts.ports c.switch))
      (let_sorted goes_out (facts.ports c.switch) (ordered_sorted (filter_map (port_by c.switch) (built.built r later))))

  go_sorted : AreSorted ports
  go_sorted = if_sorted itself others (by_known known)

  -- ---- in a fabric of this gateway

  module _ (w : World) (g : Bytes) (only : w.gateways.list ≡ (g, gateway) ∷ []) where
    abbrev gs : Gateways
    gs = w.gateways

    abbrev frame : Event
    frame = event.Frame c.port bytes

    abbrev line : Line
    line = Frame (record { g = g; p = c.port; hex = bytes })

    at : maps.get gs g ≡ Some gateway
    at = in_get nat_list_cmp_total gs g gateway (subst (λ es. IsIn (g, gateway) es) (sym only) (inl refl))

    abbrev after : Gateways
    after = maps.insert gs g next

    at_after : maps.get after g ≡ Some next
    at_after = maps.get-insert nat_list_cmp_total gs g next g ∙ ap (λ b. cond b (Some next) (maps.get gs g)) ((eq_by_cmp_equiv nat_list_cmp_total).refl g)

    abbrev ok : {A : Type 0} → A → Result A Fault
    ok a = Ok a

    event_by : (s : Step) → moves.step gateway frame ≡ s → event_at gs g frame ≡ (accepted s >>= (λ s. ok (follows gs g frame s)))
    event_by s is =
        ap (λ o. or_refuse (record { word = 1; reason = Unknown }) o >>= (λ gateway. accepted (moves.step gateway frame) >>= (λ s. ok (follows gs g frame s)))) at
        ∙ ap (λ s. accepted s >>= (λ s. ok (follows gs g frame s))) is

    abbrev outs : List (Binding × Bytes)
    outs = map (as_out g inner) ports

    -- the messages that the monitors get
    abbrev updates : List Output
    updates = messages g (told_all r seen.vtep.rows v.monitors)

    abbrev written : List Output
    written = updates ++ (fulls g seen.full ++ map out_at outs)

    as_written : (ps : List Port) → map (λ (o : Out). output.Out g o.port o.bytes) (map (out_of inner) ps) ≡ map out_at (map (as_out g inner) ps)
    as_written [] = refl
    as_written (p ∷ ps) = ap (λ os. output.Out g p.0 (tagged p.1 inner) ∷ os) (as_written ps)

    abbrev happens : List Output → List Output → Happening
    happens first outs = record { gateways = after; output = first ++ (fulls g seen.full ++ outs) }

    -- no packet is made
    happens_is : follows gs g frame stepped ≡ happens updates (map out_at outs)
    happens_is =
        ap (λ ps. then_happens (happened gs g frame stepped) (λ hs. carried_each hs ps)) (no_packets (own_ip seen.vtep.rows) vni inner)
        ∙ ap (λ (os : List Output). let h : Happening = record { gateways = after; output = os } in h) (append-nil (messages g seen.sends ++ (fulls g seen.full ++ map (λ (o : Out). output.Out g o.port o.bytes) (map (out_of inner) ports))))
        ∙ (λ i. happens (messages g (taught.told i)) (as_written ports i))

    run_is : let_in ≡ true → run w line ≡ Ok (record { world = record w { gateways = after }; output = written })
    run_is lets =
        ap (λ e. e >>= (λ h. ok (at_gateways w h))) (event_by stepped (step_is lets))
        ∙ ap (λ h. ok (at_gateways w h)) happens_is

    -- one that is not let in
    abbrev as_before : Gateways
    as_before = maps.insert gs g gateway

    denied_run : let_in ≡ false → run w line ≡ Ok (record { world = record w { gateways = as_before }; output = output.Dropped g reason.Denied ∷ [] })
    denied_run shut = ap (λ e. e >>= (λ h. ok (at_gateways w h))) (event_by kept_out (denied_is shut))

    -- ---- the bindings of the fabric, and the addresses that are learnt

    -- an address is learnt where its switch is bound
    binds : (e : Learnt) → IsIn e l → Binds r e.port e.vlan e.switch
    binds e e_in = learnt_binds r e (all_in (λ x. is_name x.port) l e good.named e_in) (all_in (is_bound_there r) l e good.local.bound e_in)

    -- an owner of the destination is where the destination is known to be
    known_by : (d : Binding) → Owns (logical_of w) (switch_of r c.switch) (destination inner) d → (e : Learnt) × (known ≡ Some e) × (d ≡ learnt_at g e)
    known_by d o =
        let e = in_owner w g gateway only (switch_of r c.switch) (be (destination inner)) d o.1 in
        let m : Binds r e.0.port e.0.vlan e.0.switch = binds e.0 e.1 in
        let of_switch : m.of.switch ≡ c.switch = names_are_rows r good.settled.rows good.settled.sound m.of c m.there c_in (ap (switch_of r) (sym m.switch_is) ∙ sym e.2) in
        let single : addresses.is_group dst ≡ false = group_is bytes inner c.vlan carries are ∙ o.0 in
        let at_it : found c.switch dst l ≡ Some e.0 = (λ i. found (sym (m.switch_is ∙ of_switch) i) (e.3 i) l) ∙ entry_found l good.local.once e.0 e.1 in
        (e.0, ap (λ b. cond b None (found c.switch dst l)) single ∙ at_it, e.4)

    -- and where it is known to be, an owner is
    owns_known : (e : Learnt) → known ≡ Some e → Owns (logical_of w) (switch_of r c.switch) (destination inner) (learnt_at g e)
    owns_known e is =
        let u = unless (addresses.is_group dst) (found c.switch dst l) e is in
        let a = found_address c.switch dst l e u.1 in
        (sym (group_is bytes inner c.vlan carries are) ∙ u.0, subst (λ (x : Bytes × ℕ). IsIn (x.0, x.1, learnt_at g e) (logical_of w).owners) (λ i. (switch_of r (a.0 i), a.1 i)) (owner_in w g gateway only e (found_entry c.switch dst l e u.1)))

    -- ---- what is written is what is delivered

    elsewhere : (q : Port) → not (same_port q entering) ≡ true → at_port g q ≡ place g c → ⊥
    elsewhere q other same =
        let test : same_port q entering ≡ true = (λ i. same_port ((same i).port, (same i).vlan) entering) ∙ (λ i. bytes_itself c.port i && number_itself c.vlan i) in
        let clash : true ≡ false = sym test ∙ not_true (same_port q entering) other in
        cc

    -- the lists of a binding let it out
    out_so : (q : Port) (m : Binds r q.0 q.1 c.switch) (lists : List ℕ) → lists ≡ acl_rows m.of.lists → may_pass facts Egress headers lists ≡ true → MayPass (logical_of w) Egress inner (at_port g q)
    out_so q m lists same may =
        let so = sym (may_is r good.settled.rows good.settled.sound quiet headers Egress later m.of m.there) ∙ ap (may_pass facts Egress headers) (sym same) ∙ may in
        subst (λ (x : Binding). MayPass (logical_of w) Egress inner x) (λ i. at_port g (sym m.port_is i, sym m.vlan_is i))
        (passes_so r good.settled.rows good.settled.sound quiet w g gateway only refl inner Egress m.of m.there so)

    -- the lists of the binding at which an address is learnt
    its_lists : (e : Learnt) (m : Binds r e.port e.vlan c.switch) → facts.lists (e.port, e.vlan) ≡ acl_rows m.of.lists
    its_lists e m = (λ i. facts.lists (m.port_is i, m.vlan_is i)) ∙ lists_is r later good.settled.rows good.settled.sound quiet m.of m.there

    -- at a binding of the switch other than that at which the frame entered
    leaves : let_in ≡ true → itself ≡ false → (q : Port) → Binds r q.0 q.1 c.switch → not (same_port q entering) ≡ true → MayPass (logical_of w) Egress inner (at_port g q)
        → Owns (logical_of w) (switch_of r c.switch) (destination inner) (at_port g q) ⊎ ((d : Binding) → Owns (logical_of w) (switch_of r c.switch) (destination inner) d → ⊥)
        → Delivers (logical_of w) (place g c) bytes (at_port g q) (tagged q.1 inner)
    leaves lets away q m other out owned = (
      switch_of r c.switch,
      inner,
      carries,
      record {
        enters = member_in w g gateway only c c_in;
        let_in = passes_so r good.settled.rows good.settled.sound quiet w g gateway only refl inner Ingress c c_in lets;
        to_another = to_another inner away;
        leaves = subst (λ (x : Bytes × Binding). IsIn x (logical_of w).bindings) (λ i. (switch_of r (sym m.switch_is i), at_port g (sym m.port_is i, sym m.vlan_is i))) (member_in w g gateway only m.of m.there);
        elsewhere = elsewhere q other;
        let_out = out;
        owned = owned;
      },
      refl,
    )

    leaves_by : let_in ≡ true → itself ≡ false → (o : Option Learnt) → known ≡ o → (q : Port) → IsIn q (ports_to facts c.switch (Some entering) headers (option_map here o)) → Delivers (logical_of w) (place g c) bytes (at_port g q) (tagged q.1 inner)
    leaves_by lets away (Some e) is q there =
        let f = in_filter (λ p. not (same_port p entering)) q (let_out facts headers (its_binding e ∷ [])) there in
        let b = in_map (λ (b : Listed). b.0) q (filter goes_out (its_binding e ∷ [])) f.1 in
        let t = in_filter goes_out b.0 (its_binding e ∷ []) b.1 in
        let u = unless (addresses.is_group dst) (found c.switch dst l) e is in
        let a = found_address c.switch dst l e u.1 in
        let its : b.0 ≡ its_binding e = elim t.1 [ inl same ↦ same | inr never ↦ absurd never ] in
        let same : q ≡ (e.port, e.vlan) = b.2 ∙ ap (λ (x : Listed). x.0) its in
        let m : Binds r e.port e.vlan c.switch = subst (Binds r e.port e.vlan) a.0 (binds e (found_entry c.switch dst l e u.1)) in
        leaves lets away q (subst (λ (p : Port). Binds r p.0 p.1 c.switch) (sym same) m) f.0
        (subst (λ (p : Port). MayPass (logical_of w) Egress inner (at_port g p)) (sym same) (out_so (e.port, e.vlan) m (facts.lists (e.port, e.vlan)) (its_lists e m) (ap goes_out (sym its) ∙ t.0)))
        (inl (subst (λ (p : Port). Owns (logical_of w) (switch_of r c.switch) (destination inner) (at_port g p)) (sym same) (owns_known e is)))
    leaves_by lets away None is q there =
        let f = in_filter (λ p. not (same_port p entering)) q (let_out facts headers (facts.ports c.switch)) there in
        let b = in_map (λ (b : Listed). b.0) q (filter goes_out (facts.ports c.switch)) f.1 in
        let t = in_filter goes_out b.0 (facts.ports c.switch) b.1 in
        let m = told_port r later quiet c.switch b.0 (ordered_is b.0 (filter_map (port_by c.switch) (built.built r later)) t.1) in
        leaves lets away q (subst (λ (p : Port). Binds r p.0 p.1 c.switch) (sym b.2) m.0) f.0
        (subst (λ (p : Port). MayPass (logical_of w) Egress inner (at_port g p)) (sym b.2) (out_so b.0.0 m.0 b.0.1 m.1 t.0))
        (inr (λ d o. let k = known_by d o in let clash : ◌≡◌ {A = Option Learnt} None (Some k.0) = sym is ∙ k.1 in cc))

    -- each binding of the switch at which an owner is, or each other one where there is none
    goes_by : (o : Option Learnt) → known ≡ o → (d : built.Binding) → IsIn d (bindings r) → not (same_port (d.port, d.vlan) entering) ≡ true → goes_out ((d.port, d.vlan), acl_rows d.lists) ≡ true
        → IsIn ((d.port, d.vlan), acl_rows d.lists) (facts.ports c.switch)
        → Owns (logical_of w) (switch_of r c.switch) (destination inner) (place g d) ⊎ ((x : Binding) → Owns (logical_of w) (switch_of r c.switch) (destination inner) x → ⊥)
        → IsIn (d.port, d.vlan) (ports_to facts c.switch (Some entering) headers (option_map here o))
    goes_by (Some e) is d d_in other out there (inl owns) =
        let q : Port = (d.port, d.vlan) in
        let k = known_by (place g d) owns in
        let same : e ≡ k.0 = same_some e k.0 (sym is ∙ k.1) in
        let port : q ≡ (e.port, e.vlan) = ap port_of (k.2 ∙ ap (learnt_at g) (sym same)) in
        let its : (q, acl_rows d.lists) ≡ its_binding e = λ i. (port i, (sym (lists_is r later good.settled.rows good.settled.sound quiet d d_in) ∙ ap facts.lists port) i) in
        filter_in (λ p. not (same_port p entering)) q (let_out facts headers (its_binding e ∷ [])) other
        (map_in (λ (b : Listed). b.0) (q, acl_rows d.lists) (filter goes_out (its_binding e ∷ [])) (filter_in goes_out (q, acl_rows d.lists) (its_binding e ∷ []) out (inl its)))
    goes_by (Some e) is d d_in other out there (inr none) = absurd (none (learnt_at g e) (owns_known e is))
    goes_by None is d d_in other out there (inl owns) = (let k = known_by (place g d) owns in let clash : ◌≡◌ {A = Option Learnt} None (Some k.0) = sym is ∙ k.1 in absurd (cc))
    goes_by None is d d_in other out there (inr none) =
        filter_in (λ p. not (same_port p entering)) (d.port, d.vlan) (let_out facts headers (facts.ports c.switch)) other
        (map_in (λ (b : Listed). b.0) ((d.port, d.vlan), acl_rows d.lists) (filter goes_out (facts.ports c.switch)) (filter_in goes_out ((d.port, d.vlan), acl_rows d.lists) (facts.ports c.switch) out there))

    its_inner : (carried : Bytes) → Carries bytes c.vlan carried → carried ≡ inner
    its_inner carried how = ap (λ (z : ℕ × Bytes). z.1) (same_carried (c.vlan, carried) (c.vlan, inner) (sym (read_back bytes carried c.vlan how) ∙ read_back bytes inner c.vlan carries))

    -- a port has one pair of lists
    one_pair : (d : built.Binding) → IsIn d (bindings r) → (x : Listed) → IsIn x (filter_map (port_by c.switch) (built.built r later)) → x.0 ≡ (d.port, d.vlan) → x.1 ≡ acl_rows d.lists
    one_pair d d_in x is at =
        let m = told_port r later quiet c.switch x is in
        m.1 ∙ ap acl_rows (same_lists r later good.settled.rows good.settled.sound quiet m.0.of d m.0.there d_in (sym m.0.port_is ∙ ap (λ (p : Port). p.0) at) (sym m.0.vlan_is ∙ ap (λ (p : Port). p.1) at))

    delivered_elsewhere : (x : Binding) (out : Bytes) → Delivers (logical_of w) (place g c) bytes x out → IsIn (x, out) outs
    delivered_elsewhere x out (t, carried_inner, how, on, is) =
        let same : carried_inner ≡ inner = its_inner carried_inner how in
        let away : itself ≡ false = false_by itself (λ e. on.to_another (subst (λ z. destination z ≡ source z) (sym same) (to_itself bytes inner c.vlan carries are e))) in
        let b = in_member w g gateway only t (place g c) on.enters in
        let d = in_member w g gateway only t x on.leaves in
        let one : c.switch ≡ b.0.switch = one_switch r l good.settled.rows good.settled.sound quiet c b.0 c_in b.1 (ap (λ (y : Binding). y.port) b.3) (ap (λ (y : Binding). y.vlan) b.3) in
        let its : t ≡ switch_of r c.switch = b.2 ∙ ap (switch_of r) (sym one) in
        let of : d.0.switch ≡ c.switch = names_are_rows r good.settled.rows good.settled.sound d.0 c d.1 c_in (sym d.2 ∙ its) in
        let q : Port = (d.0.port, d.0.vlan) in
        let listed : List Listed = filter_map (port_by c.switch) (built.built r later) in
        let there : IsIn (q, acl_rows d.0.lists) (facts.ports c.switch) = is_ordered (q, acl_rows d.0.lists) listed (one_pair d.0 d.1) (port_told r later quiet c.switch d.0 d.1 of) in
        let out_too : MayPass (logical_of w) Egress inner (place g d.0) = subst (λ (y : Bytes × Binding). MayPass (logical_of w) Egress y.0 y.1) (λ i. (same i, d.3 i)) on.let_out in
        let lets : goes_out (q, acl_rows d.0.lists) ≡ true =
        may_is r good.settled.rows good.settled.sound quiet headers Egress later d.0 d.1 ∙ so_passes r good.settled.rows good.settled.sound quiet w g gateway only refl inner Egress d.0 d.1 out_too in
        let other : same_port q entering ≡ false = false_by (same_port q entering) (λ e. on.elsewhere (d.3 ∙ ap (at_port g) (port_same q entering e))) in
        let owned : Owns (logical_of w) (switch_of r c.switch) (destination inner) (at_port g q) ⊎ ((d : Binding) → Owns (logical_of w) (switch_of r c.switch) (destination inner) d → ⊥) =
        subst (λ (y : Bytes × Bytes × Binding). Owns (logical_of w) y.0 (destination y.1) y.2 ⊎ ((d : Binding) → Owns (logical_of w) y.0 (destination y.1) d → ⊥)) (λ i. (its i, same i, d.3 i)) on.owned in
        let kept : IsIn q others = goes_by known refl d.0 d.1 (not_false (same_port q entering) other) lets there owned in
        let all : IsIn q ports = subst (λ b. IsIn q (cond b [] others)) (sym away) kept in
        let entry : ◌≡◌ {A = Binding × Bytes} (as_out g inner q) (x, out) = λ i. (sym d.3 i, sym (is ∙ (λ j. tagged (d.3 j).vlan (same j))) i) in
        subst (λ (y : Binding × Bytes). IsIn y outs) entry (map_in (as_out g inner) q ports all)

    by_test : let_in ≡ true → (b : Bool) → itself ≡ b → (x : Binding) (out : Bytes) → IsIn (x, out) (map (as_out g inner) (cond b [] others)) → Delivers (logical_of w) (place g c) bytes x out
    by_test lets true e x out is = absurd is
    by_test lets false e x out is =
        let q = in_map (as_out g inner) (x, out) others is in
        subst (λ (y : Binding × Bytes). Delivers (logical_of w) (place g c) bytes y.0 y.1) (sym q.2) (leaves_by lets e known refl q.0 q.1)

    -- ---- what is learnt

    only_after : after.list ≡ (g, next) ∷ []
    only_after =
        ap (λ (m : Gateways). m.list)
        (maps.same_map nat_list_cmp_total exact_bytes after (record { list = (g, next) ∷ []; sorted = tt })
        (λ q. maps.get-insert nat_list_cmp_total gs g next q ∙ by q (eq_by_cmp bytes_cmp q g) refl))
      where
        by : (q : Bytes) (b : Bool) → eq_by_cmp bytes_cmp q g ≡ b → cond b (Some next) (find bytes_cmp q gs.list) ≡ cond (eq_by_cmp bytes_cmp q g) (Some next) None
        by q true tie = ap (λ b. cond b (Some next) None) (sym tie)
        by q false apart = ap (find bytes_cmp q) only ∙ ap (λ b. cond b (Some gateway) None) apart ∙ ap (λ b. cond b (Some next) None) (sym apart)

    one_row : (e : Learnt) → IsIn e l → switch_of r e.switch ≡ switch_of r c.switch → e.switch ≡ c.switch
    one_row e e_in same = let m : Binds r e.port e.vlan e.switch = binds e e_in in m.switch_is ∙ names_are_rows r good.settled.rows good.settled.sound m.of c m.there c_in (ap (switch_of r) (sym m.switch_is) ∙ same)

    learns : (s carried : Bytes) → Carries bytes c.vlan carried → IsIn (s, place g c) (logical_of w).bindings → Teaches (logical_of w) (logical_of (record w { gateways = after })) s (place g c) (source carried) seen.full
    learns s carried how enters =
        let same : carried ≡ inner = its_inner carried how in
        let b = in_member w g gateway only s (place g c) enters in
        let one : c.switch ≡ b.0.switch = one_switch r l good.settled.rows good.settled.sound quiet c b.0 c_in b.1 (ap (λ (y : Binding). y.port) b.3) (ap (λ (y : Binding). y.vlan) b.3) in
        subst (λ (x : Bytes × Bytes). Teaches (logical_of w) (logical_of (record w { gateways = after })) x.0 (place g c) (source x.1) seen.full) (λ i. (sym (b.2 ∙ ap (switch_of r) (sym one)) i, sym same i))
        (teaches w g gateway only c v.clock (source inner) (source_group_is bytes inner c.vlan carries are) seen taught after only_after one_row)

    -- the lists say the same of the frame
    lets_in : (b : Bool) → let_in ≡ not b → (carried : Bytes) → Carries bytes c.vlan carried → (b ≡ false) ↔ MayPass (logical_of w) Ingress carried (place g c)
    lets_in b is carried how =
        let same : carried ≡ inner = its_inner carried how in (
          λ off. subst (λ z. MayPass (logical_of w) Ingress z (place g c)) (sym same) (passes_so r good.settled.rows good.settled.sound quiet w g gateway only refl inner Ingress c c_in (is ∙ ap not off)),
          λ may. not_true b (sym is ∙ so_passes r good.settled.rows good.settled.sound quiet w g gateway only refl inner Ingress c c_in (subst (λ z. MayPass (logical_of w) Ingress z (place g c)) same may)),
        )

    delivered : let_in ≡ true → IsDelivered w (record w { gateways = after }) (place g c) bytes written
    delivered lets =
        let order = outs_in_order g inner ports go_sorted in
        record {
          before = gateway;
          after = next;
          was = at;
          is = at_after;
          full = seen.full;
          denied = false;
          outs = outs;
          written_so = refl;
          in_order = order;
          each_once = once_in_order outs order;
          lets_in = lets_in false lets;
          exact = λ x out. (λ is. by_test lets itself refl x out is, λ d. delivered_elsewhere x out d);
          stays = λ e. absurd (cc);
          learns = λ e. learns;
        }

    -- of the binding that the fabric has
    -- nothing changes where the lists let it not in
    unchanged : as_before ≡ gs
    unchanged =
        maps.same_map nat_list_cmp_total exact_bytes as_before gs (λ q. maps.get-insert nat_list_cmp_total gs g gateway q ∙ by q (eq_by_cmp bytes_cmp q g) refl)
      where
        by : (q : Bytes) (b : Bool) → eq_by_cmp bytes_cmp q g ≡ b → cond b (Some gateway) (find bytes_cmp q gs.list) ≡ find bytes_cmp q gs.list
        by q true tie = sym (ap (find bytes_cmp q) only ∙ ap (λ b. cond b (Some gateway) None) tie)
        by q false apart = refl

    at_before : maps.get as_before g ≡ Some gateway
    at_before = ap (λ (m : Gateways). maps.get m g) unchanged ∙ at

    kept_away : let_in ≡ false → IsDelivered w (record w { gateways = as_before }) (place g c) bytes (output.Dropped g reason.Denied ∷ [])
    kept_away shut = record {
      before = gateway;
      after = gateway;
      was = at;
      is = at_before;
      full = false;
      denied = true;
      outs = [];
      written_so = ap (λ sends. messages g sends ++ (output.Dropped g reason.Denied ∷ [])) (nothing_told r r (no_changes r) v.monitors []);
      in_order = tt;
      each_once = tt;
      lets_in = lets_in true shut;
      exact = λ x out. (λ is. absurd is, λ d. never d);
      stays = λ e. ap (λ (m : Gateways). record w { gateways = m }) unchanged;
      learns = λ e. absurd (cc);
    }
      where
        never : {x : Binding} {out : Bytes} → Delivers (logical_of w) (place g c) bytes x out → ⊥
        never (t, carried, how, on, is) = (let off : true ≡ false = (lets_in true shut carried how).1 on.let_in in cc)

    pub delivers : (b : Binding) → b ≡ place g c → IsRun w b bytes
    delivers b is = subst (λ (x : Binding). IsRun w x bytes) (sym is) (by let_in refl)
      where
        by : (t : Bool) → let_in ≡ t → IsRun w (place g c) bytes
        by true lets = record { world = record w { gateways = after }; output = written; runs = run_is lets; delivered = delivered lets }
        by false shut = record { world = record w { gateways = as_before }; output = output.Dropped g reason.Denied ∷ []; runs = denied_run shut; delivered = kept_away shut }

-- ---- every state that lines lead to

pub settled_delivers : SettledDelivers
settled_delivers lines w b bytes inner s leads alone settled are carries enters = by w.gateways.list refl alone enters
  where
    by : (es : List (Bytes × Gateway)) → w.gateways.list ≡ es → IsAlone es → IsIn (s, b) (flat_map members es) → IsRun w b bytes
    by [] only alone is = absurd is
    by (e ∷ f ∷ es) only alone is = absurd alone
    by (e ∷ []) only alone is =
        let r : Rows = e.1.vtep.rows in
        let good : IsGood r e.1.vtep.learned = reached_good lines w leads e.0 e.1 (in_get nat_list_cmp_total w.gateways e.0 e.1 (subst (λ es. IsIn e es) (sym only) (inl refl))) in
        elim (in_either (s, b) (map (member e.0 r) (bindings r)) [] is) [
          | inr h ↦ absurd h
          | inl h ↦
              let c = in_map (member e.0 r) (s, b) (bindings r) h in
              let at : b ≡ place e.0 c.0 = ap (λ (x : Bytes × Binding). x.1) c.2 in
              delivers e.1 good (settled_quiet w e only settled) c.0 c.1 bytes inner (subst (λ (x : Binding). Carries bytes x.vlan inner) at carries) are w e.0 only b at
        ]

pub switches_are_rows : SwitchesAreRows
switches_are_rows r b c rows sound b_in c_in = (names_are_rows r rows sound b c b_in c_in, λ same. ap (switch_of r) same)
