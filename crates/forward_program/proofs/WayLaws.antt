-- Over the entries of sound rows a frame goes where the facts that are built from the rows say.
use Rattle.std.proofs.Common.{◌≡◌, inl, inr, ℕ, Bool, true, false, cond, ◌&&◌, List, [], ◌∷◌, map, Option, Some, None, Result, Ok, Err, refl, sym, ap, ◌∙◌, subst}
use Rattle.std.specs.Prelude.{◌==◌, IfOk, if◌then◌else◌}
use Rattle.std.specs.List.{filter}
use Rattle.std.specs.Option.{option_map, unwrap_or}
use Rattle.std.proofs.lemmas.Bool.Decides.{Decides-eqb}
use Rattle.vtep_base.specs.Reading.{Bytes}
use Rattle.vtep_base.specs.Addresses.{is_group}
use Rattle.vtep_base.specs.Maps as maps
use Rattle.vtep_base.specs.declared.shapes.Direction.{Direction}
use Rattle.vtep_base.specs.declared.shapes.Direction.TheVariants.{Ingress, Egress}
use Rattle.ether_frames.specs.declared.fields.Headers.{Headers}
use Rattle.ether_frames.specs.Headers.{headers_of}
use Rattle.acl_rules.specs.Permits.{permits}
use Rattle.vtep_base.specs.declared.answers.OutOfMemory.{OutOfMemory}
use Rattle.vtep_rows.specs.Rows.{Rows, IsRows}
use Rattle.vtep_rows.specs.Sound.{Sound}
use Rattle.vtep_rows.proofs.Entries.{same_some}
use Rattle.mac_learning.specs.declared.Learnt.{Learnt}
use Rattle.mac_learning.specs.Learning.{IsOnce}
use Rattle.forward_program.specs.declared.spots.Spot.TheVariants as spot
use Rattle.forward_program.specs.declared.spots.Part.TheVariants as part
use Rattle.forward_program.specs.declared.held.Held.TheVariants as held
use Rattle.forward_program.specs.declared.held.Lists.{Lists}
use Rattle.forward_program.specs.declared.facts.Fact.TheVariants as fact
use Rattle.forward_program.specs.declared.facts.Place.{Place}
use Rattle.forward_program.specs.declared.facts.Place.TheVariants.{Here, There}
use Rattle.forward_program.specs.declared.hops.Admission.{Admission}
use Rattle.forward_program.specs.declared.hops.Admission.TheVariants as enter
use Rattle.forward_program.specs.declared.hops.Origin.{Origin}
use Rattle.forward_program.specs.declared.hops.Origin.TheVariants as origin
use Rattle.forward_program.specs.declared.hops.Outcome.{Outcome}
use Rattle.forward_program.specs.declared.hops.Outcome.TheVariants.{Done}
use Rattle.forward_program.specs.Built.{IsIn, Binding, bindings, is_bound, is_listed, if_bound, acl_rows, names_acl, built}
use Rattle.forward_program.specs.Spots.{Entries, spot_total}
use Rattle.forward_program.specs.Shown.{shown}
use Rattle.forward_program.specs.Joins.{Port, Bound, bound_in, bound_at, network_at, of_in, is_bound_at, members_at}
use Rattle.forward_program.specs.Hop.{Ways, Listed, ways_at, ways_of, may_pass, let_out, admitted, admission, but, tunnelled, or_else, flooded, place_of, ports_to, addresses_to, nowhere, sent_on, from_port, from_tunnel, hop}
use Rattle.forward_program.specs.Hops.{Hops}
use Rattle.forward_program.specs.HopIs.{HopIs}
use Rattle.forward_program.proofs.Known.{at_known}
use Rattle.forward_program.proofs.Unique.{some_of, map_of}
use Rattle.forward_program.proofs.FactLaws.{something}
use Rattle.forward_program.proofs.JoinLaws.{bound_is, passes_some}
use Rattle.forward_program.proofs.InLists.{in_map}
use Rattle.forward_program.proofs.MapLists.{in_get}
use Rattle.forward_program.proofs.Walks.{member_there}
use Rattle.forward_program.proofs.HopLaws.{if_so, number_itself, bound_agrees, lists_agree, entries_agree, network_agrees, vni_agrees, place_agrees, flood_agrees}
use Rattle.forward_program.proofs.PortLaws.{ports_agree}

module _ (r : Rows) (learnt : List Learnt) (rows : IsRows r) (sound : Sound r) (once : IsOnce learnt) where
  abbrev m : Entries
  m = shown r learnt

  abbrev by_entries : Ways
  by_entries = ways_at m

  abbrev by_facts : Ways
  by_facts = ways_of (built r learnt)

  -- ---- the lists of a binding let by the same frames

  binding_listed : (b : Binding) → IsIn b (bindings r) → (acl : ℕ) → IsIn acl (acl_rows b.lists) → is_listed r acl ≡ true
  binding_listed b is acl h =
      passes_some (λ (c : Binding). names_acl acl c.lists) b (bindings r) is (passes_some (λ id. id == acl) acl (acl_rows b.lists) h (number_itself acl))

  may_agree : (d : Direction) (h : Headers) (lists : List ℕ) → ((acl : ℕ) → IsIn acl lists → is_listed r acl ≡ true) → may_pass by_entries d h lists ≡ may_pass by_facts d h lists
  may_agree d h [] all = refl
  may_agree d h (acl ∷ lists) all =
      λ i. permits (unwrap_or (entries_agree r learnt rows sound once acl (all acl (inl refl)) i) []) h d && may_agree d h lists (λ a g. all a (inr g)) i

  abbrev AreListed : List Listed → Type 0
  AreListed bs = (b : Listed) → IsIn b bs → (acl : ℕ) → IsIn acl b.1 → is_listed r acl ≡ true

  kept_agree : (h : Headers) (bs : List Listed) → AreListed bs → filter (λ (b : Listed). may_pass by_entries Egress h b.1) bs ≡ filter (λ (b : Listed). may_pass by_facts Egress h b.1) bs
  kept_agree h [] all = refl
  kept_agree h (b ∷ bs) all = λ i. cond (may_agree Egress h b.1 (all b (inl refl)) i) (b ∷ kept_agree h bs (λ c g. all c (inr g)) i) (kept_agree h bs (λ c g. all c (inr g)) i)

  let_agree : (h : Headers) (bs : List Listed) → AreListed bs → let_out by_entries h bs ≡ let_out by_facts h bs
  let_agree h bs all = ap (map (λ (b : Listed). b.0)) (kept_agree h bs all)

  -- ---- what stands at a binding

  its_binding : (p : Port) (b : Bound) → bound_at m p ≡ Some b → (x : Binding) × IsIn x (bindings r) × (x.port ≡ p.0) × (x.vlan ≡ p.1) × (record { switch = x.switch; lists = x.lists } ≡ b)
  its_binding p b e =
      let h = something m (spot.Port p.0 p.1) (fact.Bind p.0 p.1 b.switch (acl_rows b.lists)) (ap (option_map (λ (c : Bound). fact.Bind p.0 p.1 c.switch (acl_rows c.lists))) e) in
      let x = at_known r learnt rows sound once (spot.Port p.0 p.1) h.0 h.1 in
      (x.0, x.1, x.2, x.3, same_some (record { switch = x.0.switch; lists = x.0.lists }) b (ap bound_in (sym (h.1 ∙ ap Some x.4)) ∙ e))

  port_listed : (p : Port) (acl : ℕ) → IsIn acl (by_entries.lists p) → is_listed r acl ≡ true
  port_listed p acl h = by (bound_at m p) refl h
    where
      by : (o : Option Bound) → bound_at m p ≡ o → IsIn acl (unwrap_or (option_map (λ (b : Bound). acl_rows b.lists) o) []) → is_listed r acl ≡ true
      by None e g = absurd g
      by (Some b) e g = let x = its_binding p b e in binding_listed x.0 x.1 acl (subst (λ (c : Bound). IsIn acl (acl_rows c.lists)) (sym x.4) g)

  lists_same : (p : Port) → by_entries.lists p ≡ by_facts.lists p
  lists_same p = ap (λ o. unwrap_or o []) (lists_agree r learnt rows sound once p)

  member_lists : (a b : Lists) → held.Lists a ≡ held.Lists b → a ≡ b
  member_lists a b e = cc

  ports_listed : (s : ℕ) → AreListed (by_entries.ports s)
  ports_listed s b is acl h =
      let c = in_map (λ (b : Port × Lists). (b.0, acl_rows b.1)) b (members_at m s) is in
      let there = in_get spot_total m (spot.Switch s (part.Member c.0.0.0 c.0.0.1)) (held.Lists c.0.1) (member_there s m c.0.0 c.0.1 c.1) in
      let x = at_known r learnt rows sound once (spot.Switch s (part.Member c.0.0.0 c.0.0.1)) (held.Lists c.0.1) there in
      binding_listed x.0 x.1 acl (subst (λ (ls : Lists). IsIn acl (acl_rows ls)) (member_lists c.0.1 x.0.lists x.5) (subst (λ (d : Listed). IsIn acl d.1) c.2 h))

  -- ---- where a frame goes on a bound switch

  ports_same : (s : ℕ) (from : Option Port) (h : Headers) (o : Option Place) → ports_to by_entries s from h o ≡ ports_to by_facts s from h o
  ports_same s from h (Some (Here port vlan)) =
      ap (but from) (let_agree h (((port, vlan), by_entries.lists (port, vlan)) ∷ []) (λ b is acl g. here b is acl g) ∙ ap (λ ls. let_out by_facts h (((port, vlan), ls) ∷ [])) (lists_same (port, vlan)))
    where
      here : AreListed (((port, vlan), by_entries.lists (port, vlan)) ∷ [])
      here b (inl e) acl g = port_listed (port, vlan) acl (subst (λ (d : Listed). IsIn acl d.1) e g)
      here b (inr never) acl g = absurd never
  ports_same s from h (Some (There ip)) = refl
  ports_same s from h None = ap (but from) (let_agree h (by_entries.ports s) (ports_listed s) ∙ ap (let_out by_facts h) (ports_agree r learnt rows sound once s))

  module _ (s : ℕ) (bound : is_bound r s ≡ true) where
    place_same : (dst : ℕ) → place_of by_entries s dst ≡ place_of by_facts s dst
    place_same dst = ap (λ o. if is_group dst then None else o) (place_agrees r learnt rows sound once s bound dst)

    flooded_same : (dst : ℕ) → flooded by_entries s dst ≡ flooded by_facts s dst
    flooded_same dst =
        λ i. or_else (if is_group dst then flood_agrees r learnt rows sound once s bound (Some dst) i else []) (flood_agrees r learnt rows sound once s bound None i)

    addresses_same : (vni : Option ℕ) (dst : ℕ) (o : Option Place) → addresses_to by_entries s vni dst o ≡ addresses_to by_facts s vni dst o
    addresses_same vni dst (Some (Here port vlan)) = refl
    addresses_same vni dst (Some (There ip)) = refl
    addresses_same vni dst None = ap (tunnelled vni) (flooded_same dst)

    sent_agrees : (from : Option Port) (vni : Option ℕ) (h : Headers) → sent_on by_entries s from vni h ≡ sent_on by_facts s from vni h
    sent_agrees from vni h = λ i. if h.destination == h.source then nowhere Done vni else record {
      outcome = Done;
      ports = (ports_same s from h (place_of by_entries s h.destination) ∙ ap (ports_to by_facts s from h) (place_same h.destination)) i;
      addresses = (addresses_same vni h.destination (place_of by_entries s h.destination) ∙ ap (addresses_to by_facts s vni h.destination) (place_same h.destination)) i;
      vni = vni;
    }

  -- what a port or a network leads to is bound
  pub port_binding : (p : Port) (s : ℕ) → option_map (λ (b : Bound). b.switch) (bound_at m p) ≡ Some s → (b : Binding) × IsIn b (bindings r) × (b.port ≡ p.0) × (b.vlan ≡ p.1) × (b.switch ≡ s)
  port_binding p s e =
      let b = map_of (λ (b : Bound). b.switch) (bound_at m p) s e in
      let x = its_binding p b.0 b.1 in
      (x.0, x.1, x.2, x.3, ap (λ (c : Bound). c.switch) x.4 ∙ sym b.2)

  port_bound : (p : Port) (s : ℕ) → option_map (λ (b : Bound). b.switch) (bound_at m p) ≡ Some s → is_bound r s ≡ true
  port_bound p s e =
      let x = port_binding p s e in
      passes_some (λ (c : Binding). c.switch == s) x.0 (bindings r) x.1 ((Decides-eqb x.0.switch s).1 x.4)

  network_bound : (n s : ℕ) → network_at m n ≡ Some s → is_bound r s ≡ true
  network_bound n s e =
      let t = some_of (λ t. if_bound (is_bound_at m t) (Some t)) (of_in (maps.get m (spot.Vni n))) s e in
      let so = if_so (is_bound_at m t.0) (Some t.0) s t.2 in
      sym (bound_is r learnt rows sound once s) ∙ ap (is_bound_at m) (sym (same_some t.0 s so.1)) ∙ so.0

  -- ---- whether a frame may enter

  entered : (p : Port) (h : Headers) (o : Option ℕ) → admitted by_entries p h o ≡ admitted by_facts p h o
  entered p h None = refl
  entered p h (Some s) = ap (λ b. if b then enter.To s else enter.Denied) (may_agree Ingress h (by_entries.lists p) (port_listed p) ∙ ap (may_pass by_facts Ingress h) (lists_same p))

  pub admission_agrees : (p : Port) (inner : Bytes) → admission by_entries p inner ≡ admission by_facts p inner
  admission_agrees p inner = entered p (headers_of inner) (by_entries.bound p) ∙ ap (admitted by_facts p (headers_of inner)) (bound_agrees r learnt rows sound once p)

  -- it comes to the switch of the binding
  comes_to : (b : Bool) (t s : ℕ) → (if b then enter.To t else enter.Denied) ≡ enter.To s → t ≡ s
  comes_to true t s e = cc
  comes_to false t s e = cc

  to_bound : (p : Port) (h : Headers) (s : ℕ) (o : Option ℕ) → admitted by_entries p h o ≡ enter.To s → o ≡ Some s
  to_bound p h s None e = cc
  to_bound p h s (Some t) e = ap Some (comes_to (may_pass by_entries Ingress h (by_entries.lists p)) t s e)

  port_agrees : (p : Port) (inner : Bytes) → from_port by_entries p (headers_of inner) (admission by_entries p inner) ≡ from_port by_facts p (headers_of inner) (admission by_facts p inner)
  port_agrees p inner = by (admission by_entries p inner) refl ∙ ap (from_port by_facts p (headers_of inner)) (admission_agrees p inner)
    where
      by : (a : Admission) → admission by_entries p inner ≡ a → from_port by_entries p (headers_of inner) (admission by_entries p inner) ≡ from_port by_facts p (headers_of inner) (admission by_entries p inner)
      by enter.Unbound e = ap (from_port by_entries p (headers_of inner)) e ∙ ap (from_port by_facts p (headers_of inner)) (sym e)
      by enter.Denied e = ap (from_port by_entries p (headers_of inner)) e ∙ ap (from_port by_facts p (headers_of inner)) (sym e)
      by (enter.To s) e =
          let bound : is_bound r s ≡ true = port_bound p s (to_bound p (headers_of inner) s (by_entries.bound p) e) in
          ap (from_port by_entries p (headers_of inner)) e
          ∙ sent_agrees s bound (Some p) (by_entries.vni s) (headers_of inner)
          ∙ ap (λ vni. sent_on by_facts s (Some p) vni (headers_of inner)) (vni_agrees r learnt rows sound once s bound)
          ∙ ap (from_port by_facts p (headers_of inner)) (sym e)

  tunnel_agrees : (n : ℕ) (h : Headers) → from_tunnel by_entries h (by_entries.network n) ≡ from_tunnel by_facts h (by_facts.network n)
  tunnel_agrees n h = by (by_entries.network n) refl
    where
      by : (o : Option ℕ) → by_entries.network n ≡ o → from_tunnel by_entries h (by_entries.network n) ≡ from_tunnel by_facts h (by_facts.network n)
      by None e = ap (from_tunnel by_entries h) e ∙ ap (from_tunnel by_facts h) (sym e ∙ network_agrees r learnt rows sound once n)
      by (Some s) e =
          ap (from_tunnel by_entries h) e
          ∙ sent_agrees s (network_bound n s e) None None h
          ∙ ap (from_tunnel by_facts h) (sym e ∙ network_agrees r learnt rows sound once n)

  pub hop_agrees : (o : Origin) (inner : Bytes) → hop by_entries o inner ≡ hop by_facts o inner
  hop_agrees (origin.Port port vlan) inner = port_agrees (port, vlan) inner
  hop_agrees (origin.Tunnel vni) inner = tunnel_agrees vni (headers_of inner)

pub admission_told : (n : Entries) (p : Port) (inner : Bytes) (a : Admission) (r : Rows) (learnt : List Learnt) → IsRows r → Sound r → IsOnce learnt → n ≡ shown r learnt → a ≡ admission (ways_at n) p inner
    → a ≡ admission (ways_of (built r learnt)) p inner
admission_told n p inner a r learnt rows sound once is h = h ∙ ap (λ (k : Entries). admission (ways_at k) p inner) is ∙ admission_agrees r learnt rows sound once p inner

pub way_told : (a : Result Outcome OutOfMemory) (out : Hops) (n : Entries) (o : Origin) (inner : Bytes) (r : Rows) (learnt : List Learnt) → IsRows r → Sound r → IsOnce learnt → n ≡ shown r learnt → IfOk a (λ outcome. HopIs outcome out (hop (ways_at n) o inner))
    → IfOk a (λ outcome. HopIs outcome out (hop (ways_of (built r learnt)) o inner))
way_told (Ok outcome) out n o inner r learnt rows sound once is h = subst (HopIs outcome out) (ap (λ (k : Entries). hop (ways_at k) o inner) is ∙ hop_agrees r learnt rows sound once o inner) h
way_told (Err e) out n o inner r learnt rows sound once is h = tt
