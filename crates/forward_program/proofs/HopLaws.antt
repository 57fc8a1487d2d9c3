-- Where a frame goes by the entries of sound rows is where it goes by the facts that are built from the rows.
use Rattle.std.proofs.Common.{◌≡◌, inl, ℕ, Bool, true, false, cond, ◌&&◌, ◌||◌, List, [], ◌∷◌, Option, Some, None, refl, sym, ap, ◌∙◌, subst}
use Rattle.std.specs.Prelude.{◌==◌, if◌then◌else◌}
use Rattle.std.specs.List.{filter_map}
use Rattle.std.specs.Option.{option_and_then, option_map, unwrap_or}
use Rattle.std.specs.Cmp.{first_so, second_so}
use Rattle.std.proofs.lemmas.Bool.Decides.{Decides-eqb}
use Rattle.vtep_base.specs.Reading.{Bytes, same_bytes}
use Rattle.vtep_schema.specs.declared.Table.TheVariants.{LogicalSwitch}
use Rattle.vtep_schema.specs.declared.Column.TheVariants.{LogicalTunnelKey}
use Rattle.vtep_rows.specs.Row.{number_at, first}
use Rattle.vtep_rows.specs.Rows.{Rows, IsRows, row_at}
use Rattle.vtep_rows.specs.Sound.{Sound}
use Rattle.vtep_rows.proofs.Entries.{same_some, both}
use Rattle.acl_rules.specs.declared.entry.Entry.{Entry}
use Rattle.mac_learning.specs.declared.Learnt.{Learnt}
use Rattle.mac_learning.specs.Learning.{IsOnce}
use Rattle.forward_program.specs.declared.spots.Spot.{Spot}
use Rattle.forward_program.specs.declared.spots.Spot.TheVariants as spot
use Rattle.forward_program.specs.declared.spots.Part.TheVariants as part
use Rattle.forward_program.specs.declared.facts.Fact.{Fact}
use Rattle.forward_program.specs.declared.facts.Fact.TheVariants as fact
use Rattle.forward_program.specs.declared.facts.Place.{Place}
use Rattle.forward_program.specs.Built.{IsIn, is_bound, is_listed, if_bound, acl_rows, flood_to, built}
use Rattle.forward_program.specs.Spots.{Entries}
use Rattle.forward_program.specs.Shown.{shown}
use Rattle.forward_program.specs.Joins.{Port, Bound, bound_at, of_in, network_at, vni_at, place_at, found_at, flood_at, rules_at, is_bound_at, is_listed_at, fact_at}
use Rattle.forward_program.specs.Hop.{same_port, bound_by, lists_by, entries_by, network_by, vni_by, place_by, flood_by, same_group}
use Rattle.forward_program.proofs.InLists.{in_picked, picked_in}
use Rattle.forward_program.proofs.Known.{at_known}
use Rattle.forward_program.proofs.Unique.{some_of, map_of, bytes_same, bytes_itself}
use Rattle.forward_program.specs.Places.{is_here}
use Rattle.forward_program.proofs.FactLaws.{said_built, built_said, network_at_row, something}
use Rattle.forward_program.proofs.JoinLaws.{bound_is, vni_is}
use Rattle.forward_program.proofs.ListedLaws.{listed_is}
use Rattle.forward_program.proofs.Once.{its_place, found_built, built_found}

-- ---- the first of what is picked, where only one thing can be picked

module _ {B : Type 0} where
  first_in : (ys : List B) (o : Option B) → ((y : B) → IsIn y ys → o ≡ Some y) → ((y : B) → o ≡ Some y → IsIn y ys) → o ≡ first ys
  first_in [] None f g = refl
  first_in [] (Some y) f g = absurd (g y refl)
  first_in (y ∷ ys) o f g = f y (inl refl)

  pub first_picked : {A : Type 0} (p : A → Option B) (xs : List A) (o : Option B) → ((x : A) (y : B) → IsIn x xs → p x ≡ Some y → o ≡ Some y) → ((y : B) → o ≡ Some y → (x : A) × IsIn x xs × (p x ≡ Some y))
      → o ≡ first (filter_map p xs)
  first_picked p xs o f g =
      first_in (filter_map p xs) o (λ y h. let x = in_picked p y xs h in f x.0 y x.1 x.2) (λ y e. let x = g y e in picked_in p y x.0 xs x.1 x.2)

-- ---- tests

pub passed : {A : Type 0} (b : Bool) (x y : A) → cond b (Some x) None ≡ Some y → (b ≡ true) × (x ≡ y)
passed true x y e = (refl, same_some x y e)
passed false x y e = cc

pub passes : {A : Type 0} (b : Bool) (x : A) → b ≡ true → cond b (Some x) None ≡ Some x
passes true x e = refl
passes false x e = cc

pub number_itself : (n : ℕ) → (n == n) ≡ true
number_itself n = (Decides-eqb n n).1 refl

pub number_same : (m n : ℕ) → (m == n) ≡ true → m ≡ n
number_same m n e = (Decides-eqb m n).0 e

port_same : (p q : Port) → same_port p q ≡ true → p ≡ q
port_same p q e = λ i. (bytes_same p.0 q.0 (first_so (same_bytes p.0 q.0) (p.1 == q.1) e) i, number_same p.1 q.1 (second_so (same_bytes p.0 q.0) (p.1 == q.1) e) i)

port_itself : (p : Port) → same_port p p ≡ true
port_itself p = both (same_bytes p.0 p.0) (p.1 == p.1) (bytes_itself p.0) (number_itself p.1)

group_same : (g k : Option ℕ) → same_group g k ≡ true → g ≡ k
group_same None None e = refl
group_same (Some m) (Some n) e = ap Some (number_same m n e)
group_same None (Some n) e = cc
group_same (Some m) None e = cc

group_itself : (g : Option ℕ) → same_group g g ≡ true
group_itself None = refl
group_itself (Some m) = number_itself m

-- ---- what facts are made of

bind_switch : (p q : Bytes) (v w s t : ℕ) (ls ks : List ℕ) → fact.Bind p v s ls ≡ fact.Bind q w t ks → s ≡ t
bind_switch p q v w s t ls ks e = cc

bind_lists : (p q : Bytes) (v w s t : ℕ) (ls ks : List ℕ) → fact.Bind p v s ls ≡ fact.Bind q w t ks → ls ≡ ks
bind_lists p q v w s t ls ks e = cc

acl_entries : (a b : ℕ) (xs ys : List Entry) → fact.Acl a xs ≡ fact.Acl b ys → xs ≡ ys
acl_entries a b xs ys e = cc

vni_switch : (m n s t : ℕ) → fact.Vni m s ≡ fact.Vni n t → s ≡ t
vni_switch m n s t e = cc

pub if_so : {A : Type 0} (b : Bool) (o : Option A) (x : A) → if_bound b o ≡ Some x → (b ≡ true) × (o ≡ Some x)
if_so true o x e = (refl, e)
if_so false o x e = cc

module _ (r : Rows) (learnt : List Learnt) (rows : IsRows r) (sound : Sound r) (once : IsOnce learnt) where
  abbrev m : Entries
  m = shown r learnt

  -- a fact that is built is said at its own place
  pub said : (f : Fact) (k : Spot) → IsIn f (built r learnt) → ((j : Spot) → fact_at m j ≡ Some f → j ≡ k) → fact_at m k ≡ Some f
  said f k is place = let j = built_said r learnt rows sound once f is in ap (fact_at m) (sym (place j.0 j.1)) ∙ j.1

  bind_said : (port : Bytes) (vlan switch : ℕ) (lists : List ℕ) → IsIn (fact.Bind port vlan switch lists) (built r learnt) → option_map (λ (b : Bound). b.switch) (bound_at m (port, vlan)) ≡ Some switch
  bind_said port vlan switch lists is =
      let f = said (fact.Bind port vlan switch lists) (spot.Port port vlan) is (λ j e. sym (its_place m j (fact.Bind port vlan switch lists) e)) in
      let b = map_of (λ (b : Bound). fact.Bind port vlan b.switch (acl_rows b.lists)) (bound_at m (port, vlan)) (fact.Bind port vlan switch lists) f in
      ap (option_map (λ (b : Bound). b.switch)) b.1 ∙ ap Some (sym (bind_switch port port vlan vlan switch b.0.switch lists (acl_rows b.0.lists) b.2))

  pub bound_agrees : (p : Port) → option_map (λ (b : Bound). b.switch) (bound_at m p) ≡ first (filter_map (bound_by p) (built r learnt))
  bound_agrees p = first_picked (bound_by p) (built r learnt) (option_map (λ (b : Bound). b.switch) (bound_at m p)) there back
    where
      there : (f : Fact) (y : ℕ) → IsIn f (built r learnt) → bound_by p f ≡ Some y → option_map (λ (b : Bound). b.switch) (bound_at m p) ≡ Some y
      there (fact.Bind port vlan switch lists) y is e =
          let h = passed (same_port p (port, vlan)) switch y e in
          ap (λ (q : Port). option_map (λ (b : Bound). b.switch) (bound_at m q)) (port_same p (port, vlan) h.0) ∙ bind_said port vlan switch lists is ∙ ap Some h.1
      there (fact.Vni vni switch) y is e = cc
      there (fact.Mac switch mac place) y is e = cc
      there (fact.Flood switch group addresses) y is e = cc
      there (fact.Acl acl entries) y is e = cc

      back : (y : ℕ) → option_map (λ (b : Bound). b.switch) (bound_at m p) ≡ Some y → (f : Fact) × IsIn f (built r learnt) × (bound_by p f ≡ Some y)
      back y e =
          let b = map_of (λ (b : Bound). b.switch) (bound_at m p) y e in (
            fact.Bind p.0 p.1 b.0.switch (acl_rows b.0.lists),
            said_built r learnt rows sound once (spot.Port p.0 p.1) (fact.Bind p.0 p.1 b.0.switch (acl_rows b.0.lists)) (ap (option_map (λ (c : Bound). fact.Bind p.0 p.1 c.switch (acl_rows c.lists))) b.1),
            passes (same_port p p) b.0.switch (port_itself p) ∙ ap Some (sym b.2),
          )

  -- ---- the lists of a binding

  lists_said : (port : Bytes) (vlan switch : ℕ) (lists : List ℕ) → IsIn (fact.Bind port vlan switch lists) (built r learnt) → option_map (λ (b : Bound). acl_rows b.lists) (bound_at m (port, vlan)) ≡ Some lists
  lists_said port vlan switch lists is =
      let f = said (fact.Bind port vlan switch lists) (spot.Port port vlan) is (λ j e. sym (its_place m j (fact.Bind port vlan switch lists) e)) in
      let b = map_of (λ (b : Bound). fact.Bind port vlan b.switch (acl_rows b.lists)) (bound_at m (port, vlan)) (fact.Bind port vlan switch lists) f in
      ap (option_map (λ (b : Bound). acl_rows b.lists)) b.1 ∙ ap Some (sym (bind_lists port port vlan vlan switch b.0.switch lists (acl_rows b.0.lists) b.2))

  pub lists_agree : (p : Port) → option_map (λ (b : Bound). acl_rows b.lists) (bound_at m p) ≡ first (filter_map (lists_by p) (built r learnt))
  lists_agree p = first_picked (lists_by p) (built r learnt) (option_map (λ (b : Bound). acl_rows b.lists) (bound_at m p)) there back
    where
      there : (f : Fact) (y : List ℕ) → IsIn f (built r learnt) → lists_by p f ≡ Some y → option_map (λ (b : Bound). acl_rows b.lists) (bound_at m p) ≡ Some y
      there (fact.Bind port vlan switch lists) y is e =
          let h = passed (same_port p (port, vlan)) lists y e in
          ap (λ (q : Port). option_map (λ (b : Bound). acl_rows b.lists) (bound_at m q)) (port_same p (port, vlan) h.0) ∙ lists_said port vlan switch lists is ∙ ap Some h.1
      there (fact.Vni vni switch) y is e = cc
      there (fact.Mac switch mac place) y is e = cc
      there (fact.Flood switch group addresses) y is e = cc
      there (fact.Acl acl entries) y is e = cc

      back : (y : List ℕ) → option_map (λ (b : Bound). acl_rows b.lists) (bound_at m p) ≡ Some y → (f : Fact) × IsIn f (built r learnt) × (lists_by p f ≡ Some y)
      back y e =
          let b = map_of (λ (b : Bound). acl_rows b.lists) (bound_at m p) y e in (
            fact.Bind p.0 p.1 b.0.switch (acl_rows b.0.lists),
            said_built r learnt rows sound once (spot.Port p.0 p.1) (fact.Bind p.0 p.1 b.0.switch (acl_rows b.0.lists)) (ap (option_map (λ (c : Bound). fact.Bind p.0 p.1 c.switch (acl_rows c.lists))) b.1),
            passes (same_port p p) (acl_rows b.0.lists) (port_itself p) ∙ ap Some (sym b.2),
          )

  -- ---- the entries of an ACL that is listed

  module _ (acl : ℕ) (listed : is_listed r acl ≡ true) where
    seen : is_listed_at m acl ≡ true
    seen = listed_is r learnt rows sound once acl ∙ listed

    of_rules : fact_at m (spot.Acl acl) ≡ option_map (fact.Acl acl) (rules_at m acl)
    of_rules = ap (λ b. if b then option_map (fact.Acl acl) (rules_at m acl) else None) seen

    pub entries_agree : rules_at m acl ≡ first (filter_map (entries_by acl) (built r learnt))
    entries_agree = first_picked (entries_by acl) (built r learnt) (rules_at m acl) there back
      where
        entries_said : (entries : List Entry) → IsIn (fact.Acl acl entries) (built r learnt) → rules_at m acl ≡ Some entries
        entries_said entries is =
            let f = said (fact.Acl acl entries) (spot.Acl acl) is (λ j e. sym (its_place m j (fact.Acl acl entries) e)) in
            let x = map_of (fact.Acl acl) (rules_at m acl) (fact.Acl acl entries) (sym (of_rules) ∙ f) in
            x.1 ∙ ap Some (sym (acl_entries acl acl entries x.0 x.2))

        there : (f : Fact) (y : List Entry) → IsIn f (built r learnt) → entries_by acl f ≡ Some y → rules_at m acl ≡ Some y
        there (fact.Acl id entries) y is e =
            let h = passed (id == acl) entries y e in
            entries_said entries (subst (λ n. IsIn (fact.Acl n entries) (built r learnt)) (number_same id acl h.0) is) ∙ ap Some h.1
        there (fact.Bind port vlan switch lists) y is e = cc
        there (fact.Vni vni switch) y is e = cc
        there (fact.Mac switch mac place) y is e = cc
        there (fact.Flood switch group addresses) y is e = cc

        back : (y : List Entry) → rules_at m acl ≡ Some y → (f : Fact) × IsIn f (built r learnt) × (entries_by acl f ≡ Some y)
        back y e = (
          fact.Acl acl y,
          said_built r learnt rows sound once (spot.Acl acl) (fact.Acl acl y) (of_rules ∙ ap (option_map (fact.Acl acl)) e),
          passes (acl == acl) y (number_itself acl),
        )

  vni_said : (vni switch : ℕ) → IsIn (fact.Vni vni switch) (built r learnt) → network_at m vni ≡ Some switch
  vni_said vni switch is =
      let f = said (fact.Vni vni switch) (spot.Vni vni) is (λ j e. sym (its_place m j (fact.Vni vni switch) e)) in
      let s = map_of (fact.Vni vni) (network_at m vni) (fact.Vni vni switch) f in
      s.1 ∙ ap Some (sym (vni_switch vni vni switch s.0 s.2))

  pub network_agrees : (n : ℕ) → network_at m n ≡ first (filter_map (network_by n) (built r learnt))
  network_agrees n = first_picked (network_by n) (built r learnt) (network_at m n) there back
    where
      there : (f : Fact) (y : ℕ) → IsIn f (built r learnt) → network_by n f ≡ Some y → network_at m n ≡ Some y
      there (fact.Vni vni switch) y is e =
          let h = passed (vni == n) switch y e in
          ap (network_at m) (sym (number_same vni n h.0)) ∙ vni_said vni switch is ∙ ap Some h.1
      there (fact.Bind port vlan switch lists) y is e = cc
      there (fact.Mac switch mac place) y is e = cc
      there (fact.Flood switch group addresses) y is e = cc
      there (fact.Acl acl entries) y is e = cc

      back : (y : ℕ) → network_at m n ≡ Some y → (f : Fact) × IsIn f (built r learnt) × (network_by n f ≡ Some y)
      back y e = (fact.Vni n y, said_built r learnt rows sound once (spot.Vni n) (fact.Vni n y) (ap (option_map (fact.Vni n)) e), passes (n == n) y (number_itself n))

  -- ---- a switch that is bound

  module _ (s : ℕ) (bound : is_bound r s ≡ true) where
    walks : is_bound_at m s ≡ true
    walks = bound_is r learnt rows sound once s ∙ bound

    key_there : (vni : ℕ) → network_at m vni ≡ Some s → vni_at m s ≡ Some vni
    key_there vni e =
        let f : fact_at m (spot.Vni vni) ≡ Some (fact.Vni vni s) = ap (option_map (fact.Vni vni)) e in
        let h = something m (spot.Vni vni) (fact.Vni vni s) f in
        let x = at_known r learnt rows sound once (spot.Vni vni) h.0 h.1 in
        let here : if_bound (is_bound_at m x.0) (Some x.0) ≡ Some s = ap (λ o. option_and_then (λ t. if_bound (is_bound_at m t) (Some t)) (of_in o)) (sym (h.1 ∙ ap Some x.4)) ∙ e in
        let same : x.0 ≡ s = same_some x.0 s (if_so (is_bound_at m x.0) (Some x.0) s here).1 in
        vni_is r learnt rows sound once s ∙ ap (option_and_then (λ row. number_at row LogicalTunnelKey)) (ap (λ t. row_at r (LogicalSwitch, t)) (sym same) ∙ x.2) ∙ x.3

    pub vni_agrees : vni_at m s ≡ first (filter_map (vni_by s) (built r learnt))
    vni_agrees = first_picked (vni_by s) (built r learnt) (vni_at m s) there back
      where
        there : (f : Fact) (y : ℕ) → IsIn f (built r learnt) → vni_by s f ≡ Some y → vni_at m s ≡ Some y
        there (fact.Vni vni switch) y is e =
            let h = passed (switch == s) vni y e in
            key_there vni (vni_said vni switch is ∙ ap Some (number_same switch s h.0)) ∙ ap Some h.1
        there (fact.Bind port vlan switch lists) y is e = cc
        there (fact.Mac switch mac place) y is e = cc
        there (fact.Flood switch group addresses) y is e = cc
        there (fact.Acl acl entries) y is e = cc

        back : (y : ℕ) → vni_at m s ≡ Some y → (f : Fact) × IsIn f (built r learnt) × (vni_by s f ≡ Some y)
        back y e =
            let x = some_of (λ row. number_at row LogicalTunnelKey) (row_at r (LogicalSwitch, s)) y (sym (vni_is r learnt rows sound once s) ∙ e) in (
              fact.Vni y s,
              said_built r learnt rows sound once (spot.Vni y) (fact.Vni y s)
                  (network_at_row r learnt rows sound once s x.0 y x.1 x.2 ∙ (λ i. if_bound (bound i) (option_map (λ vni. fact.Vni vni s) (x.2 i)))),
              passes (s == s) y (number_itself s),
            )

    found_place : (b : Bool) (o : Option Place) → b ≡ true → option_and_then (λ place. if_bound (is_here place || b) (Some place)) o ≡ o
    found_place b None e = refl
    found_place b (Some place) e = ap (λ c. if_bound (is_here place || c) (Some place)) e ∙ elim (is_here place) as (λ c. if_bound (c || true) (Some place) ≡ Some place) [ true ↦ refl | false ↦ refl ]

    pub place_agrees : (a : ℕ) → place_at m s a ≡ first (filter_map (place_by s a) (built r learnt))
    place_agrees a = first_picked (place_by s a) (built r learnt) (place_at m s a) there back
      where
        same : found_at m s a ≡ place_at m s a
        same = found_place (is_bound_at m s) (place_at m s a) walks

        there : (f : Fact) (y : Place) → IsIn f (built r learnt) → place_by s a f ≡ Some y → place_at m s a ≡ Some y
        there (fact.Mac switch mac place) y is e =
            let h = passed ((switch == s) && (mac == a)) place y e in
            let at : fact.Mac switch mac place ≡ fact.Mac s a y =
            λ i. fact.Mac (number_same switch s (first_so (switch == s) (mac == a) h.0) i) (number_same mac a (second_so (switch == s) (mac == a) h.0) i) (h.1 i) in
            sym same ∙ built_found r learnt rows sound once s a y (subst (λ f. IsIn f (built r learnt)) at is)
        there (fact.Vni vni switch) y is e = cc
        there (fact.Bind port vlan switch lists) y is e = cc
        there (fact.Flood switch group addresses) y is e = cc
        there (fact.Acl acl entries) y is e = cc

        back : (y : Place) → place_at m s a ≡ Some y → (f : Fact) × IsIn f (built r learnt) × (place_by s a f ≡ Some y)
        back y e = (fact.Mac s a y, found_built r learnt rows sound once s a y (same ∙ e), passes ((s == s) && (a == a)) y (both (s == s) (a == a) (number_itself s) (number_itself a)))

    abbrev some_list : List ℕ → Option (List ℕ)
    some_list [] = None
    some_list (x ∷ xs) = Some (x ∷ xs)

    listed : (xs : List ℕ) → xs ≡ unwrap_or (some_list xs) []
    listed [] = refl
    listed (x ∷ xs) = refl

    flood_list : (g : Option ℕ) (xs ips : List ℕ) → flood_to s g xs ≡ Some (fact.Flood s g ips) → some_list xs ≡ Some ips
    flood_list g [] ips e = cc
    flood_list g (x ∷ xs) ips e = ap Some (cc)

    list_flood : (g : Option ℕ) (xs ips : List ℕ) → some_list xs ≡ Some ips → flood_to s g xs ≡ Some (fact.Flood s g ips)
    list_flood g [] ips e = cc
    list_flood g (x ∷ xs) ips e = ap (λ ys. Some (fact.Flood s g ys)) (same_some (x ∷ xs) ips e)

    pub flood_agrees : (g : Option ℕ) → flood_at m s g ≡ unwrap_or (first (filter_map (flood_by s g) (built r learnt))) []
    flood_agrees g = listed (flood_at m s g) ∙ ap (λ o. unwrap_or o []) (first_picked (flood_by s g) (built r learnt) (some_list (flood_at m s g)) there back)
      where
        there : (f : Fact) (y : List ℕ) → IsIn f (built r learnt) → flood_by s g f ≡ Some y → some_list (flood_at m s g) ≡ Some y
        there (fact.Flood switch group addresses) y is e =
            let h = passed ((switch == s) && same_group group g) addresses y e in
            let at : fact.Flood switch group addresses ≡ fact.Flood s g y =
            λ i. fact.Flood (number_same switch s (first_so (switch == s) (same_group group g) h.0) i) (group_same group g (second_so (switch == s) (same_group group g) h.0) i) (h.1 i) in
            let f = said (fact.Flood s g y) (spot.Switch s (part.Group g)) (subst (λ f. IsIn f (built r learnt)) at is) (λ j q. sym (its_place m j (fact.Flood s g y) q)) in
            flood_list g (flood_at m s g) y (if_so (is_bound_at m s) (flood_to s g (flood_at m s g)) (fact.Flood s g y) f).1
        there (fact.Vni vni switch) y is e = cc
        there (fact.Bind port vlan switch lists) y is e = cc
        there (fact.Mac switch mac place) y is e = cc
        there (fact.Acl acl entries) y is e = cc

        back : (y : List ℕ) → some_list (flood_at m s g) ≡ Some y → (f : Fact) × IsIn f (built r learnt) × (flood_by s g f ≡ Some y)
        back y e = (
          fact.Flood s g y,
          said_built r learnt rows sound once (spot.Switch s (part.Group g)) (fact.Flood s g y) ((λ i. if_bound (walks i) (flood_to s g (flood_at m s g))) ∙ list_flood g (flood_at m s g) y e),
          passes ((s == s) && same_group g g) y (both (s == s) (same_group g g) (number_itself s) (group_itself g)),
        )
