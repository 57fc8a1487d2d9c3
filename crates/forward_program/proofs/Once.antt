-- Each fact stands once, since it stands at its own place.
use Rattle.std.proofs.Common.{◌≡◌, ℕ, Bool, true, false, T, List, [], ◌∷◌, map, Option, Some, None, refl, sym, ap, ◌∙◌, subst, if◌then◌else◌}
use Rattle.std.specs.List.{filter_map, cons_option}
use Rattle.std.specs.Option.{option_map}
use Rattle.std.specs.Cmp.{Equal-is, eq_by_cmp_equiv}
use Rattle.std.specs.declared.cmp.Ordering.TheVariants.{Less, Equal}
use Rattle.std.specs.FinMap.{is_sorted}
use Rattle.std.specs.FinMap.Entries.{below_all}
use Rattle.vtep_base.specs.Maps as maps
use Rattle.vtep_rows.specs.Rows.{Rows, IsRows}
use Rattle.vtep_rows.specs.Sound.{Sound}
use Rattle.vtep_rows.proofs.Entries.{t_first, t_second, same_some}
use Rattle.mac_learning.specs.declared.Learnt.{Learnt}
use Rattle.mac_learning.specs.Learning.{IsOnce}
use Rattle.forward_program.specs.declared.spots.Spot.{Spot}
use Rattle.forward_program.specs.declared.spots.Spot.TheVariants as spot
use Rattle.forward_program.specs.declared.spots.Part.TheVariants as part
use Rattle.forward_program.specs.declared.held.Held.{Held}
use Rattle.forward_program.specs.declared.facts.Fact.{Fact}
use Rattle.forward_program.specs.declared.facts.Fact.TheVariants as fact
use Rattle.forward_program.specs.declared.facts.Place.{Place}
use Rattle.forward_program.specs.Built.{IsIn, AreApart, if_bound, flood_to, acl_rows, built}
use Rattle.forward_program.specs.Spots.{Entries, spot_cmp, spot_total}
use Rattle.forward_program.specs.Shown.{shown}
use Rattle.forward_program.specs.Joins.{Bound, bound_at, network_at, found_at, flood_at, rules_at, is_bound_at, is_listed_at, fact_at, facts_of}
use Rattle.forward_program.proofs.InLists.{in_map, in_picked}
use Rattle.forward_program.proofs.Unique.{map_of}
use Rattle.forward_program.proofs.Walks.{below_in}
use Rattle.forward_program.proofs.FactLaws.{said_built, built_said}

abbrev pub spot_of : Fact → Spot
spot_of (fact.Vni vni switch) = spot.Vni vni
spot_of (fact.Bind port vlan switch lists) = spot.Port port vlan
spot_of (fact.Mac switch mac place) = spot.Switch switch (part.Host mac)
spot_of (fact.Flood switch group addresses) = spot.Switch switch (part.Group group)
spot_of (fact.Acl acl entries) = spot.Acl acl

flood_place : (b : Bool) (s : ℕ) (g : Option ℕ) (ips : List ℕ) (f : Fact) → if_bound b (flood_to s g ips) ≡ Some f → spot_of f ≡ spot.Switch s (part.Group g)
flood_place true s g [] f is = cc
flood_place true s g (ip ∷ ips) f is = ap (λ o. spot_of_some o) (sym is)
  where
    spot_of_some : Option Fact → Spot
    spot_of_some None = spot.Switch s (part.Group g)
    spot_of_some (Some x) = spot_of x
flood_place false s g ips f is = cc

-- a fact names the place that says it
pub its_place : (m : Entries) (k : Spot) (f : Fact) → fact_at m k ≡ Some f → spot_of f ≡ k
its_place m (spot.Port p v) f is = let x = map_of (λ (b : Bound). fact.Bind p v b.switch (acl_rows b.lists)) (bound_at m (p, v)) f is in ap spot_of x.2
its_place m (spot.Switch s (part.Host a)) f is = let x = map_of (fact.Mac s a) (found_at m s a) f is in ap spot_of x.2
its_place m (spot.Switch s (part.Group g)) f is = flood_place (is_bound_at m s) s g (flood_at m s g) f is
its_place m (spot.Switch s part.Itself) f is = cc
its_place m (spot.Switch s (part.Member p v)) f is = cc
its_place m (spot.Vni n) f is = let x = map_of (fact.Vni n) (network_at m n) f is in ap spot_of x.2
its_place m (spot.Set i) f is = cc
its_place m (spot.Locator i) f is = cc
its_place m (spot.Acl i) f is =
    let listed = passed (is_listed_at m i) (option_map (fact.Acl i) (rules_at m i)) f is in
    let x = map_of (fact.Acl i) (rules_at m i) f listed in
    ap spot_of x.2
  where
    passed : (b : Bool) (o : Option Fact) (g : Fact) → (if b then o else None) ≡ Some g → o ≡ Some g
    passed true o g e = e
    passed false o g e = cc

keys_apart : (es : List (Spot × Held)) → T (is_sorted spot_cmp es) → AreApart (map (λ (e : Spot × Held). e.0) es)
keys_apart [] sorted = tt
keys_apart (e ∷ es) sorted = (
  λ h.
      let d = in_map (λ (x : Spot × Held). x.0) e.0 es h in
      let less : spot_cmp e.0 e.0 ≡ Less = ap (spot_cmp e.0) d.2 ∙ below_in spot_cmp e.0 es (t_first (below_all spot_cmp e.0 es) (is_sorted spot_cmp es) sorted) d.0 d.1 in
      let tie : spot_cmp e.0 e.0 ≡ Equal = (Equal-is (spot_cmp e.0 e.0)).0 ((eq_by_cmp_equiv spot_total).refl e.0) in
      let clash : Less ≡ Equal = sym less ∙ tie in
      cc,
  keys_apart es (t_second (below_all spot_cmp e.0 es) (is_sorted spot_cmp es) sorted),
)

picked_apart : (m : Entries) (ks : List Spot) → AreApart ks → AreApart (filter_map (fact_at m) ks)
picked_apart m [] apart = tt
picked_apart m (k ∷ ks) apart = by (fact_at m k) refl (picked_apart m ks apart.1)
  where
    by : (o : Option Fact) → fact_at m k ≡ o → AreApart (filter_map (fact_at m) ks) → AreApart (cons_option o (filter_map (fact_at m) ks))
    by None e rest = rest
    by (Some f) e rest = (
      λ h. let j = in_picked (fact_at m) f ks h in apart.0 (subst (λ q. IsIn q ks) (sym (its_place m j.0 f j.2) ∙ its_place m k f e) j.1),
      rest,
    )

pub facts_apart : (m : Entries) → AreApart (facts_of m)
facts_apart m = picked_apart m (maps.keys m) (keys_apart m.list m.sorted)

-- ---- the place of an address

same_place : (s a : ℕ) (x y : Place) → fact.Mac s a x ≡ fact.Mac s a y → x ≡ y
same_place s a x y e = cc

module _ (r : Rows) (learnt : List Learnt) (rows : IsRows r) (sound : Sound r) (once : IsOnce learnt) (s a : ℕ) (place : Place) where
  pub found_built : found_at (shown r learnt) s a ≡ Some place → IsIn (fact.Mac s a place) (built r learnt)
  found_built is = said_built r learnt rows sound once (spot.Switch s (part.Host a)) (fact.Mac s a place) (ap (option_map (fact.Mac s a)) is)

  pub built_found : IsIn (fact.Mac s a place) (built r learnt) → found_at (shown r learnt) s a ≡ Some place
  built_found is =
      let k = built_said r learnt rows sound once (fact.Mac s a place) is in
      let said : fact_at (shown r learnt) (spot.Switch s (part.Host a)) ≡ Some (fact.Mac s a place) = ap (fact_at (shown r learnt)) (its_place (shown r learnt) k.0 (fact.Mac s a place) k.1) ∙ k.1 in
      let x = map_of (fact.Mac s a) (found_at (shown r learnt) s a) (fact.Mac s a place) said in
      x.1 ∙ ap Some (sym (same_place s a place x.0 x.2))

-- an address has one place
pub one_place : (r : Rows) (learnt : List Learnt) (rows : IsRows r) (sound : Sound r) (once : IsOnce learnt) (s a : ℕ) (x y : Place) → IsIn (fact.Mac s a x) (built r learnt) → IsIn (fact.Mac s a y) (built r learnt) → x ≡ y
one_place r learnt rows sound once s a x y is js = same_some x y (sym (built_found r learnt rows sound once s a x is) ∙ built_found r learnt rows sound once s a y js)
