-- What the facts of rows and of learnt addresses are made of, where the rows send nothing to other gateways.
use Rattle.std.proofs.Common.{◌≡◌, inl, inr, ℕ, Bool, true, false, cond, List, [], ◌++◌, map, is_some, Option, Some, None, refl, sym, ap, subst, ◌∙◌}
use Rattle.std.specs.Prelude.{◌==◌, ◌&&◌}
use Rattle.std.specs.List.{filter_map}
use Rattle.std.specs.Option.{option_and_then, option_map, unwrap_or}
use Rattle.std.specs.Cmp.{first_so, second_so}
use Rattle.vtep_base.specs.Reading.{Bytes, same_bytes}
use Rattle.vtep_schema.specs.declared.Table.TheVariants.{LogicalSwitch, UcastMacsRemote, McastMacsRemote, Acl}
use Rattle.vtep_schema.specs.declared.Column.TheVariants.{LogicalTunnelKey}
use Rattle.vtep_rows.specs.Row.{Contents, number_at, first}
use Rattle.vtep_rows.specs.Rows.{Rows, IsRows, row_at, rows_of}
use Rattle.vtep_rows.specs.Sound.{Sound}
use Rattle.vtep_rows.proofs.Entries.{both}
use Rattle.acl_rules.specs.declared.entry.Entry.{Entry}
use Rattle.mac_learning.specs.declared.Learnt.{Learnt}
use Rattle.mac_learning.specs.Learning.{IsOnce, found}
use Rattle.forward_program.specs.declared.readings.Remote.{Remote}
use Rattle.forward_program.specs.declared.readings.Group.{Group}
use Rattle.forward_program.specs.declared.facts.Fact.{Fact}
use Rattle.forward_program.specs.declared.facts.Fact.TheVariants as fact
use Rattle.forward_program.specs.declared.facts.Place.{Place}
use Rattle.forward_program.specs.declared.facts.Place.TheVariants.{Here}
use Rattle.forward_program.specs.Readings.{remote_of, group_of}
use Rattle.forward_program.specs.Acls.{entries_at}
use Rattle.forward_program.specs.Built.{IsIn, Binding, bindings, is_bound, is_listed, acl_rows, bind_fact, vni_fact, remote_fact, unlearnt_fact, learnt_fact, flood_fact, acl_fact, built}
use Rattle.forward_program.specs.Joins.{Port}
use Rattle.forward_program.specs.Hop.{Listed, same_port, bound_by, lists_by, entries_by, place_by, flood_by, port_by, ways_of}
use Rattle.forward_program.proofs.HostLaws.{found_entry, found_address, entry_found}
use Rattle.forward_program.proofs.InLists.{in_front, in_back, in_either, in_map, map_in, in_picked, picked_in}
use Rattle.forward_program.proofs.HopLaws.{first_picked, passed, passes, if_so, number_same, number_itself}
use Rattle.forward_program.proofs.RowsIn.{in_rows, rows_in}
use Rattle.forward_program.proofs.Unique.{binding_of, one_binding, some_of, map_of, bytes_same, bytes_itself}
use Rattle.fabric_world.specs.Logical.{entries_of}

pub port_same : (p q : Port) → same_port p q ≡ true → p ≡ q
port_same p q e = λ i. (bytes_same p.0 q.0 (first_so (same_bytes p.0 q.0) (p.1 == q.1) e) i, number_same p.1 q.1 (second_so (same_bytes p.0 q.0) (p.1 == q.1) e) i)

-- the binding of a fact
pub record Binds (r : Rows) (port : Bytes) (vlan switch : ℕ) : Type 0 where
  pub of : Binding
  pub there : IsIn of (bindings r)
  pub port_is : port ≡ of.port
  pub vlan_is : vlan ≡ of.vlan
  pub switch_is : switch ≡ of.switch

abbrev pub here : Learnt → Place
here e = Here e.port e.vlan

-- the learnt address of a fact
pub record Learns (l : List Learnt) (switch mac : ℕ) (place : Place) : Type 0 where
  pub of : Learnt
  pub there : IsIn of l
  pub switch_is : switch ≡ of.switch
  pub mac_is : mac ≡ of.mac
  pub place_is : place ≡ here of

-- no row makes a fact of another gateway
pub record IsQuiet (r : Rows) : Type 0 where
  pub remotes : (e : ℕ × Contents) (a : Remote) (f : Fact) → IsIn e (rows_of UcastMacsRemote r) → remote_of e.1 ≡ Some a → remote_fact r a ≡ Some f → ⊥
  pub floods : (e : ℕ × Contents) (g : Group) (f : Fact) → IsIn e (rows_of McastMacsRemote r) → group_of e.1 ≡ Some g → flood_fact r g ≡ Some f → ⊥

-- the binding of a fact, with its lists
abbrev pub BindsListed : Rows → Bytes → ℕ → ℕ → List ℕ → Type 0
BindsListed r port vlan switch lists = (b : Binds r port vlan switch) × (lists ≡ acl_rows b.of.lists)

abbrev pub Made : Rows → List Learnt → Fact → Type 0
Made r l (fact.Vni vni switch) = Unit {0}
Made r l (fact.Bind port vlan switch lists) = BindsListed r port vlan switch lists
Made r l (fact.Acl acl entries) = (row : Contents) × (row_at r (Acl, acl) ≡ Some row) × (entries ≡ entries_at r row)
Made r l (fact.Mac switch mac place) = Learns l switch mac place
Made r l (fact.Flood switch group addresses) = ⊥

otherwise : {A : Type 0} (b : Bool) (o : Option A) (x : A) → cond b None o ≡ Some x → o ≡ Some x
otherwise true o x e = absurd (cc)
otherwise false o x e = e

module _ (r : Rows) (l : List Learnt) where
  abbrev networks : List Fact
  networks = filter_map (vni_fact r) (rows_of LogicalSwitch r)

  abbrev bound_facts : List Fact
  bound_facts = map bind_fact (bindings r)

  abbrev learnt_facts : List Fact
  learnt_facts = map learnt_fact l

  abbrev remote_facts : List Fact
  remote_facts = filter_map (λ (e : ℕ × Contents). option_and_then (unlearnt_fact r l) (remote_of e.1)) (rows_of UcastMacsRemote r)

  abbrev flood_facts : List Fact
  flood_facts = filter_map (λ (e : ℕ × Contents). option_and_then (flood_fact r) (group_of e.1)) (rows_of McastMacsRemote r)

  abbrev acl_facts : List Fact
  acl_facts = filter_map (acl_fact r) (rows_of Acl r)

  abbrev others : List Fact
  others = (((networks ++ bound_facts) ++ learnt_facts) ++ remote_facts) ++ flood_facts

  pub bind_built : (c : Binding) → IsIn c (bindings r) → IsIn (bind_fact c) (built r l)
  bind_built c there =
      in_front (bind_fact c) others acl_facts
      (in_front (bind_fact c) (((networks ++ bound_facts) ++ learnt_facts) ++ remote_facts) flood_facts
      (in_front (bind_fact c) ((networks ++ bound_facts) ++ learnt_facts) remote_facts
      (in_front (bind_fact c) (networks ++ bound_facts) learnt_facts (in_back (bind_fact c) networks bound_facts (map_in bind_fact c (bindings r) there)))))

  learnt_built : (e : Learnt) → IsIn e l → IsIn (learnt_fact e) (built r l)
  learnt_built e there =
      in_front (learnt_fact e) others acl_facts
      (in_front (learnt_fact e) (((networks ++ bound_facts) ++ learnt_facts) ++ remote_facts) flood_facts
      (in_front (learnt_fact e) ((networks ++ bound_facts) ++ learnt_facts) remote_facts (in_back (learnt_fact e) (networks ++ bound_facts) learnt_facts (map_in learnt_fact e l there))))

  acl_built : (acl : ℕ) (row : Contents) → row_at r (Acl, acl) ≡ Some row → is_listed r acl ≡ true → IsIn (fact.Acl acl (entries_at r row)) (built r l)
  acl_built acl row at listed =
      in_back (fact.Acl acl (entries_at r row)) others acl_facts
      (picked_in (acl_fact r) (fact.Acl acl (entries_at r row)) (acl, row) (rows_of Acl r) (rows_in r Acl acl row at) (passes (is_listed r acl) (fact.Acl acl (entries_at r row)) listed))

  module _ (quiet : IsQuiet r) where
    made_of : (f : Fact) → IsIn f others → Made r l f
    made_of f is = elim (in_either f (((networks ++ bound_facts) ++ learnt_facts) ++ remote_facts) flood_facts is) [
      | inr in_floods ↦
          let e = in_picked (λ (e : ℕ × Contents). option_and_then (flood_fact r) (group_of e.1)) f (rows_of McastMacsRemote r) in_floods in
          let x = some_of (flood_fact r) (group_of e.0.1) f e.2 in
          absurd (quiet.floods e.0 x.0 f e.1 x.1 x.2)
      | inl front ↦ elim (in_either f ((networks ++ bound_facts) ++ learnt_facts) remote_facts front) [
        | inr in_remotes ↦
            let e = in_picked (λ (e : ℕ × Contents). option_and_then (unlearnt_fact r l) (remote_of e.1)) f (rows_of UcastMacsRemote r) in_remotes in
            let x = some_of (unlearnt_fact r l) (remote_of e.0.1) f e.2 in
            absurd (quiet.remotes e.0 x.0 f e.1 x.1 (otherwise (is_some (found x.0.switch x.0.mac l)) (remote_fact r x.0) f x.2))
        | inl before ↦ elim (in_either f (networks ++ bound_facts) learnt_facts before) [
          | inr in_learnt ↦
              let e = in_map learnt_fact f l in_learnt in
              subst (Made r l) (sym e.2) (record { of = e.0; there = e.1; switch_is = refl; mac_is = refl; place_is = refl })
          | inl first ↦ elim (in_either f networks bound_facts first) [
            | inr in_binds ↦
                let b = in_map bind_fact f (bindings r) in_binds in
                subst (Made r l) (sym b.2) (record { of = b.0; there = b.1; port_is = refl; vlan_is = refl; switch_is = refl }, refl)
            | inl in_networks ↦
                let e = in_picked (vni_fact r) f (rows_of LogicalSwitch r) in_networks in
                let so = if_so (is_bound r e.0.0) (option_map (λ vni. fact.Vni vni e.0.0) (number_at e.0.1 LogicalTunnelKey)) f e.2 in
                let n = map_of (λ vni. fact.Vni vni e.0.0) (number_at e.0.1 LogicalTunnelKey) f so.1 in
                subst (Made r l) (sym n.2) tt
          ]
        ]
      ]
    ]

    pub made : (f : Fact) → IsIn f (built r l) → Made r l f
    made f is = elim (in_either f others acl_facts is) [
      | inr in_acls ↦
          let e = in_picked (acl_fact r) f (rows_of Acl r) in_acls in
          let p = passed (is_listed r e.0.0) (fact.Acl e.0.0 (entries_at r e.0.1)) f e.2 in
          subst (Made r l) p.1 (e.0.1, in_rows r Acl e.0 e.1, refl)
      | inl rest ↦ made_of f rest
    ]

    -- an address is where it is learnt, and else nobody says where it is
    pub place_is : IsOnce l → (s mac : ℕ) → (ways_of (built r l)).place s mac ≡ option_map here (found s mac l)
    place_is once s mac = sym (first_picked (place_by s mac) (built r l) (option_map here (found s mac l)) there back)
      where
        there : (f : Fact) (y : Place) → IsIn f (built r l) → place_by s mac f ≡ Some y → option_map here (found s mac l) ≡ Some y
        there (fact.Mac switch address place) y is e =
            let h = passed ((switch == s) && (address == mac)) place y e in
            let m : Learns l switch address place = made (fact.Mac switch address place) is in
            let of_switch : m.of.switch ≡ s = sym m.switch_is ∙ number_same switch s (first_so (switch == s) (address == mac) h.0) in
            let of_mac : m.of.mac ≡ mac = sym m.mac_is ∙ number_same address mac (second_so (switch == s) (address == mac) h.0) in
            (λ i. option_map here (found (sym of_switch i) (sym of_mac i) l)) ∙ ap (option_map here) (entry_found l once m.of m.there) ∙ ap Some (sym m.place_is ∙ h.1)
        there (fact.Vni vni switch) y is e = absurd (cc)
        there (fact.Bind port vlan switch lists) y is e = absurd (cc)
        there (fact.Acl acl entries) y is e = absurd (cc)
        there (fact.Flood switch group addresses) y is e = absurd (cc)

        back : (y : Place) → option_map here (found s mac l) ≡ Some y → (f : Fact) × IsIn f (built r l) × (place_by s mac f ≡ Some y)
        back y e =
            let d = map_of here (found s mac l) y e in
            let a = found_address s mac l d.0 d.1 in (
              learnt_fact d.0,
              learnt_built d.0 (found_entry s mac l d.0 d.1),
              passes ((d.0.switch == s) && (d.0.mac == mac)) (here d.0)
                  (both (d.0.switch == s) (d.0.mac == mac) (ap (λ n. d.0.switch == n) (sym a.0) ∙ number_itself d.0.switch) (ap (λ n. d.0.mac == n) (sym a.1) ∙ number_itself d.0.mac)) ∙ ap Some (sym d.2),
            )

    -- nothing is sent to other gateways
    pub no_flood : (s : ℕ) (group : Option ℕ) → (ways_of (built r l)).flood s group ≡ []
    no_flood s group = ap (λ o. unwrap_or o []) (sym (first_picked (flood_by s group) (built r l) None there back))
      where
        there : (f : Fact) (y : List ℕ) → IsIn f (built r l) → flood_by s group f ≡ Some y → None ≡ Some y
        there (fact.Flood switch key addresses) y is e = absurd (made (fact.Flood switch key addresses) is)
        there (fact.Vni vni switch) y is e = absurd (cc)
        there (fact.Bind port vlan switch lists) y is e = absurd (cc)
        there (fact.Mac switch mac place) y is e = absurd (cc)
        there (fact.Acl acl entries) y is e = absurd (cc)

        back : (y : List ℕ) → None ≡ Some y → (f : Fact) × IsIn f (built r l) × (flood_by s group f ≡ Some y)
        back y e = absurd (cc)

    -- ---- the bindings of a switch

    pub told_port : (s : ℕ) (q : Listed) → IsIn q (filter_map (port_by s) (built r l)) → BindsListed r q.0.0 q.0.1 s q.1
    told_port s q is = let f = in_picked (port_by s) q (built r l) is in by f.0 (made f.0 f.1) f.2
      where
        by : (f : Fact) → Made r l f → port_by s f ≡ Some q → BindsListed r q.0.0 q.0.1 s q.1
        by (fact.Bind port vlan switch lists) m e =
            let h = passed (switch == s) ((port, vlan), lists) q e in
            subst (λ (p : Listed). BindsListed r p.0.0 p.0.1 s p.1) h.1 (subst (λ n. BindsListed r port vlan n lists) (number_same switch s h.0) m)
        by (fact.Acl acl entries) m e = absurd (cc)
        by (fact.Vni vni switch) m e = absurd (cc)
        by (fact.Mac switch mac place) m e = absurd (cc)
        by (fact.Flood switch group addresses) m e = absurd m

    pub port_told : (s : ℕ) (c : Binding) → IsIn c (bindings r) → c.switch ≡ s → IsIn ((c.port, c.vlan), acl_rows c.lists) (filter_map (port_by s) (built r l))
    port_told s c there same =
        picked_in (port_by s) ((c.port, c.vlan), acl_rows c.lists) (bind_fact c) (built r l) (bind_built c there)
        (passes (c.switch == s) ((c.port, c.vlan), acl_rows c.lists) (ap (λ n. n == s) same ∙ number_itself s))

    -- the entries of a list that a binding has
    pub entries_is : (acl : ℕ) → is_listed r acl ≡ true → (ways_of (built r l)).entries acl ≡ entries_of r acl
    entries_is acl listed = ap (λ o. unwrap_or o []) (sym (first_picked (entries_by acl) (built r l) (option_map (entries_at r) (row_at r (Acl, acl))) there back))
      where
        there : (f : Fact) (y : List Entry) → IsIn f (built r l) → entries_by acl f ≡ Some y → option_map (entries_at r) (row_at r (Acl, acl)) ≡ Some y
        there (fact.Acl a entries) y is e =
            let h = passed (a == acl) entries y e in
            let m : Made r l (fact.Acl a entries) = made (fact.Acl a entries) is in
            ap (λ n. option_map (entries_at r) (row_at r (Acl, n))) (sym (number_same a acl h.0)) ∙ ap (option_map (entries_at r)) m.1 ∙ ap Some (sym m.2 ∙ h.1)
        there (fact.Vni vni switch) y is e = absurd (cc)
        there (fact.Bind port vlan switch lists) y is e = absurd (cc)
        there (fact.Mac switch mac place) y is e = absurd (cc)
        there (fact.Flood switch group addresses) y is e = absurd (cc)

        back : (y : List Entry) → option_map (entries_at r) (row_at r (Acl, acl)) ≡ Some y → (f : Fact) × IsIn f (built r l) × (entries_by acl f ≡ Some y)
        back y e =
            let row = map_of (entries_at r) (row_at r (Acl, acl)) y e in
            (fact.Acl acl (entries_at r row.0), acl_built acl row.0 row.1 listed, passes (acl == acl) (entries_at r row.0) (number_itself acl) ∙ ap Some (sym row.2))

  module _ (rows : IsRows r) (sound : Sound r) (quiet : IsQuiet r) where
    -- one VLAN of one port has one switch
    pub one_switch : (b c : Binding) → IsIn b (bindings r) → IsIn c (bindings r) → b.port ≡ c.port → b.vlan ≡ c.vlan → b.switch ≡ c.switch
    one_switch b c b_in c_in port vlan = (one_binding r rows sound b c (binding_of r rows sound b b_in) (binding_of r rows sound c c_in) port vlan).0

    pub bound_is : (c : Binding) → IsIn c (bindings r) → (ways_of (built r l)).bound (c.port, c.vlan) ≡ Some c.switch
    bound_is c c_in = sym (first_picked (bound_by (c.port, c.vlan)) (built r l) (Some c.switch) there back)
      where
        there : (f : Fact) (y : ℕ) → IsIn f (built r l) → bound_by (c.port, c.vlan) f ≡ Some y → Some c.switch ≡ Some y
        there (fact.Bind port vlan switch lists) y is e =
            let h = passed (same_port (c.port, c.vlan) (port, vlan)) switch y e in
            let p : (c.port, c.vlan) ≡ (port, vlan) = port_same (c.port, c.vlan) (port, vlan) h.0 in
            let m : BindsListed r port vlan switch lists = made quiet (fact.Bind port vlan switch lists) is in
            ap Some (one_switch c m.0.of c_in m.0.there (ap (λ (q : Port). q.0) p ∙ m.0.port_is) (ap (λ (q : Port). q.1) p ∙ m.0.vlan_is) ∙ sym m.0.switch_is ∙ h.1)
        there (fact.Vni vni switch) y is e = absurd (cc)
        there (fact.Mac switch mac place) y is e = absurd (cc)
        there (fact.Flood switch group addresses) y is e = absurd (cc)
        there (fact.Acl acl entries) y is e = absurd (cc)

        back : (y : ℕ) → Some c.switch ≡ Some y → (f : Fact) × IsIn f (built r l) × (bound_by (c.port, c.vlan) f ≡ Some y)
        back y e = (
          bind_fact c,
          bind_built c c_in,
          passes (same_port (c.port, c.vlan) (c.port, c.vlan)) c.switch ((λ i. bytes_itself c.port i && number_itself c.vlan i)) ∙ e,
        )

    -- and one pair of lists
    pub same_lists : (b c : Binding) → IsIn b (bindings r) → IsIn c (bindings r) → b.port ≡ c.port → b.vlan ≡ c.vlan → b.lists ≡ c.lists
    same_lists b c b_in c_in port vlan = (one_binding r rows sound b c (binding_of r rows sound b b_in) (binding_of r rows sound c c_in) port vlan).1

    pub lists_is : (c : Binding) → IsIn c (bindings r) → (ways_of (built r l)).lists (c.port, c.vlan) ≡ acl_rows c.lists
    lists_is c c_in = ap (λ o. unwrap_or o []) (sym (first_picked (lists_by (c.port, c.vlan)) (built r l) (Some (acl_rows c.lists)) there back))
      where
        there : (f : Fact) (y : List ℕ) → IsIn f (built r l) → lists_by (c.port, c.vlan) f ≡ Some y → Some (acl_rows c.lists) ≡ Some y
        there (fact.Bind port vlan switch lists) y is e =
            let h = passed (same_port (c.port, c.vlan) (port, vlan)) lists y e in
            let p : (c.port, c.vlan) ≡ (port, vlan) = port_same (c.port, c.vlan) (port, vlan) h.0 in
            let m : BindsListed r port vlan switch lists = made quiet (fact.Bind port vlan switch lists) is in
            ap Some (ap acl_rows (same_lists c m.0.of c_in m.0.there (ap (λ (q : Port). q.0) p ∙ m.0.port_is) (ap (λ (q : Port). q.1) p ∙ m.0.vlan_is)) ∙ sym m.1 ∙ h.1)
        there (fact.Vni vni switch) y is e = absurd (cc)
        there (fact.Mac switch mac place) y is e = absurd (cc)
        there (fact.Flood switch group addresses) y is e = absurd (cc)
        there (fact.Acl acl entries) y is e = absurd (cc)

        back : (y : List ℕ) → Some (acl_rows c.lists) ≡ Some y → (f : Fact) × IsIn f (built r l) × (lists_by (c.port, c.vlan) f ≡ Some y)
        back y e = (
          bind_fact c,
          bind_built c c_in,
          passes (same_port (c.port, c.vlan) (c.port, c.vlan)) (acl_rows c.lists) ((λ i. bytes_itself c.port i && number_itself c.vlan i)) ∙ e,
        )
