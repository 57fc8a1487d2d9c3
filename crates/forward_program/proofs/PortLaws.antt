-- The bindings of a switch that a walk finds are those of the facts, in order.
use Rattle.std.proofs.Common.{◌≡◌, inl, inr, ℕ, true, false, cond, List, [], ◌∷◌, map, Some, None, refl, sym, ap, ◌∙◌, subst}
use Rattle.std.specs.Prelude.{◌==◌}
use Rattle.std.specs.List.{filter_map}
use Rattle.std.specs.Ordering.{nat_cmp, eq_by_cmp}
use Rattle.std.specs.Cmp.{IsTotalOrder, nat_cmp_total, eq_by_cmp_equiv}
use Rattle.std.specs.Cmp.Lexicographic.{slice_cmp, nat_list_cmp_total}
use Rattle.std.specs.declared.cmp.Ordering.{Ordering}
use Rattle.std.specs.FinMap.{find, IsAntisymmetric}
use Rattle.std.proofs.lemmas.Cmp.{on_total, then_total}
use Rattle.std.proofs.lemmas.Map.Lookups.{exact_pairs, exact_bytes, exact_unsigned}
use Rattle.vtep_base.specs.Reading.{Bytes}
use Rattle.vtep_base.specs.Maps as maps
use Rattle.vlan_bindings.specs.Places.{place_cmp}
use Rattle.vtep_rows.specs.Rows.{Rows, IsRows}
use Rattle.vtep_rows.specs.Sound.{Sound}
use Rattle.mac_learning.specs.declared.Learnt.{Learnt}
use Rattle.mac_learning.specs.Learning.{IsOnce}
use Rattle.forward_program.specs.declared.spots.Spot.TheVariants as spot
use Rattle.forward_program.specs.declared.spots.Part.TheVariants as part
use Rattle.forward_program.specs.declared.held.Held.TheVariants as held
use Rattle.forward_program.specs.declared.held.Lists.{Lists}
use Rattle.forward_program.specs.declared.facts.Fact.{Fact}
use Rattle.forward_program.specs.declared.facts.Fact.TheVariants as fact
use Rattle.forward_program.specs.Built.{IsIn, bind_fact, acl_rows, built}
use Rattle.forward_program.specs.Spots.{Entries, spot_total}
use Rattle.forward_program.specs.Shown.{shown}
use Rattle.forward_program.specs.Joins.{Port, members_at, fact_at}
use Rattle.forward_program.specs.Hop.{Listed, port_by, in_order}
use Rattle.forward_program.proofs.InLists.{in_map, map_in, in_picked, picked_in}
use Rattle.forward_program.proofs.MapLists.{in_get, get_in, found_in}
use Rattle.forward_program.proofs.SpotOrder.{spot_exact}
use Rattle.forward_program.proofs.Walks.{marked, member_there, there_member, members_in_order}
use Rattle.forward_program.proofs.Known.{at_known, known_at}
use Rattle.forward_program.proofs.Followed.{same_options}
use Rattle.forward_program.proofs.FactLaws.{said_built, bind_at, something}
use Rattle.forward_program.proofs.HopLaws.{said, passed, number_same, number_itself}
use Rattle.forward_program.proofs.Once.{its_place}

place_total : IsTotalOrder place_cmp
place_total = then_total (on_total (λ (p : Port). p.0) nat_list_cmp_total) (on_total (λ (p : Port). p.1) nat_cmp_total)

place_exact : IsAntisymmetric place_cmp
place_exact = exact_pairs (slice_cmp nat_cmp) nat_cmp exact_bytes exact_unsigned

module _ {K X : Type 0} {R : K → K → Ordering} (o : IsTotalOrder R) where
  in_find : (k : K) (x : X) (es : List (K × X)) → IsIn (k, x) es → (y : X) × (find R k es ≡ Some y)
  in_find k x [] h = absurd h
  in_find k x (e ∷ es) (inl is) = subst (λ (d : K × X). (y : X) × (cond (eq_by_cmp R k d.0) (Some d.1) (find R k es) ≡ Some y)) is (x, ap (λ b. cond b (Some x) (find R k es)) ((eq_by_cmp_equiv o).refl k))
  in_find k x (e ∷ es) (inr h) =
      let rest = in_find k x es h in
      elim (eq_by_cmp R k e.0) as (λ b. (y : X) × (cond b (Some e.1) (find R k es) ≡ Some y)) [ true ↦ (e.1, refl) | false ↦ rest ]

same_bind : (p q : Bytes) (v w s t : ℕ) (ls ks : List ℕ) → fact.Bind p v s ls ≡ fact.Bind q w t ks → (s ≡ t) × (ls ≡ ks)
same_bind p q v w s t ls ks e = (cc, cc)

same_lists : (a b : Lists) → held.Lists a ≡ held.Lists b → a ≡ b
same_lists a b e = cc

module _ (r : Rows) (learnt : List Learnt) (rows : IsRows r) (sound : Sound r) (once : IsOnce learnt) (s : ℕ) where
  abbrev m : Entries
  m = shown r learnt

  abbrev told : List Listed
  told = filter_map (port_by s) (built r learnt)

  -- a binding that the walk finds is a fact
  walked_told : (p : Port) (lists : Lists) → IsIn (p, lists) (members_at m s) → IsIn (p, acl_rows lists) told
  walked_told p lists h =
      let there = in_get spot_total m (spot.Switch s (part.Member p.0 p.1)) (held.Lists lists) (member_there s m p lists h) in
      let x = at_known r learnt rows sound once (spot.Switch s (part.Member p.0 p.1)) (held.Lists lists) there in
      let same : x.0.lists ≡ lists = sym (same_lists lists x.0.lists x.5) in
      picked_in (port_by s) (p, acl_rows lists) (bind_fact x.0) (built r learnt)
      (said_built r learnt rows sound once (spot.Port x.0.port x.0.vlan) (bind_fact x.0) (bind_at r learnt rows sound once x.0 x.1))
      (ap (λ b. cond b (Some ((x.0.port, x.0.vlan), acl_rows x.0.lists)) None) (ap (λ t. t == s) x.2 ∙ number_itself s) ∙ (λ i. Some ((x.3 i, x.4 i), acl_rows (same i))))

  -- and a fact is one that the walk finds
  bind_walked : (port : Bytes) (vlan switch : ℕ) (lists : List ℕ) → IsIn (fact.Bind port vlan switch lists) (built r learnt) → switch ≡ s → (ls : Lists) × IsIn ((port, vlan), ls) (members_at m s) × (lists ≡ acl_rows ls)
  bind_walked port vlan switch lists is same =
      let f = said r learnt rows sound once (fact.Bind port vlan switch lists) (spot.Port port vlan) is (λ j e. sym (its_place m j (fact.Bind port vlan switch lists) e)) in
      let h = something m (spot.Port port vlan) (fact.Bind port vlan switch lists) f in
      let x = at_known r learnt rows sound once (spot.Port port vlan) h.0 h.1 in
      let again : Some (fact.Bind port vlan switch lists) ≡ Some (bind_fact x.0) = sym f ∙ (λ i. fact_at m (spot.Port (sym x.2 i) (sym x.3 i))) ∙ bind_at r learnt rows sound once x.0 x.1 in
      let parts = same_bind port x.0.port vlan x.0.vlan switch x.0.switch lists (acl_rows x.0.lists) (cc) in
      let to : x.0.switch ≡ s = sym parts.0 ∙ same in
      let entry = known_at r learnt rows sound once (spot.Switch s (part.Member port vlan)) (held.Lists x.0.lists) (x.0, x.1, to, x.2, x.3, refl) in
      (x.0.lists, there_member s m (port, vlan) x.0.lists (get_in spot_exact m (spot.Switch s (part.Member port vlan)) (held.Lists x.0.lists) entry), parts.1)

  told_walked : (f : Fact) (b : Listed) → IsIn f (built r learnt) → port_by s f ≡ Some b → (ls : Lists) × IsIn (b.0, ls) (members_at m s) × (b.1 ≡ acl_rows ls)
  told_walked (fact.Bind port vlan switch lists) b is e =
      let h = passed (switch == s) ((port, vlan), lists) b e in
      let w = bind_walked port vlan switch lists is (number_same switch s h.0) in
      (w.0, subst (λ (c : Listed). IsIn (c.0, w.0) (members_at m s)) h.1 w.1, ap (λ (c : Listed). c.1) (sym h.1) ∙ w.2)
  told_walked (fact.Vni vni switch) b is e = cc
  told_walked (fact.Mac switch mac place) b is e = cc
  told_walked (fact.Flood switch group addresses) b is e = cc
  told_walked (fact.Acl acl entries) b is e = cc

  -- ---- both in order

  abbrev walk : List (Port × Lists)
  walk = members_at m s

  abbrev walked : maps.Map place_cmp (List ℕ)
  walked = record { list = marked s walk; sorted = members_in_order s m }

  told_there : (q : Port) (lists : List ℕ) → IsIn (q, lists) told → maps.get walked q ≡ Some lists
  told_there q lists h =
      let f = in_picked (port_by s) (q, lists) (built r learnt) h in
      let w = told_walked f.0 (q, lists) f.1 f.2 in
      in_get place_total walked q lists (subst (λ (x : List ℕ). IsIn (q, x) walked.list) (sym w.2) (map_in (λ (b : Port × Lists). (b.0, acl_rows b.1)) (q, w.0) walk w.1))

  back : (q : Port) (lists : List ℕ) → maps.get (maps.of_list {R = place_cmp} told) q ≡ Some lists → maps.get walked q ≡ Some lists
  back q lists e = told_there q lists (found_in place_exact q lists told (sym (maps.get-of_list place_total told q) ∙ e))

  forth : (q : Port) (lists : List ℕ) → maps.get walked q ≡ Some lists → maps.get (maps.of_list {R = place_cmp} told) q ≡ Some lists
  forth q lists e =
      let b = in_map (λ (b : Port × Lists). (b.0, acl_rows b.1)) (q, lists) walk (get_in place_exact walked q lists e) in
      let h : IsIn (q, lists) told = subst (λ (x : Listed). IsIn x told) (sym b.2) (walked_told b.0.0 b.0.1 b.1) in
      let f = in_find place_total q lists told h in
      let there : maps.get (maps.of_list {R = place_cmp} told) q ≡ Some f.0 = maps.get-of_list place_total told q ∙ f.1 in
      there ∙ sym (back q f.0 there) ∙ e

  pub ports_agree : map (λ (b : Port × Lists). (b.0, acl_rows b.1)) (members_at m s) ≡ in_order told
  ports_agree =
      ap (λ (n : maps.Map place_cmp (List ℕ)). n.list)
      (maps.same_map place_total place_exact walked (maps.of_list told) (λ q. same_options (maps.get walked q) (maps.get (maps.of_list {R = place_cmp} told) q) (forth q) (back q)))
