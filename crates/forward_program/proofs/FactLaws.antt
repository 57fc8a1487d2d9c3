-- The joins over the entries of sound rows are the facts that are built from the rows.
use Rattle.std.proofs.Common.{◌≡◌, inl, inr, ℕ, Bool, true, false, ◌||◌, List, ◌++◌, map, is_some, Option, Some, None, refl, sym, ap, ◌∙◌, subst, if◌then◌else◌}
use Rattle.std.specs.List.{filter_map}
use Rattle.std.specs.Option.{option_and_then, option_map}
use Rattle.vtep_base.specs.Maps as maps
use Rattle.vtep_schema.specs.declared.Table.TheVariants.{LogicalSwitch, UcastMacsRemote, McastMacsRemote, Acl}
use Rattle.vtep_schema.specs.declared.Column.TheVariants.{LogicalTunnelKey}
use Rattle.vtep_rows.specs.Row.{Contents, number_at}
use Rattle.vtep_rows.specs.Rows.{Rows, IsRows, rows_of, row_at}
use Rattle.vtep_rows.specs.Sound.{Sound}
use Rattle.vtep_rows.proofs.Entries.{same_some}
use Rattle.replication.specs.Targets.{targets}
use Rattle.mac_learning.specs.declared.Learnt.{Learnt}
use Rattle.mac_learning.specs.Learning.{IsOnce, found}
use Rattle.forward_program.specs.declared.spots.Spot.{Spot}
use Rattle.forward_program.specs.declared.spots.Spot.TheVariants as spot
use Rattle.forward_program.specs.declared.spots.Part.TheVariants as part
use Rattle.forward_program.specs.declared.held.Held.{Held}
use Rattle.forward_program.specs.declared.held.Held.TheVariants as held
use Rattle.forward_program.specs.declared.readings.Remote.{Remote}
use Rattle.forward_program.specs.declared.readings.Group.{Group}
use Rattle.forward_program.specs.declared.facts.Fact.{Fact}
use Rattle.forward_program.specs.declared.facts.Fact.TheVariants as fact
use Rattle.forward_program.specs.declared.facts.Place.TheVariants.{There}
use Rattle.forward_program.specs.Places.{is_here}
use Rattle.forward_program.specs.Readings.{remote_of, group_of}
use Rattle.forward_program.specs.Acls.{entries_at}
use Rattle.forward_program.specs.Built.{IsIn, Binding, bindings, is_bound, if_bound, acl_rows, bind_fact, vni_fact, remote_fact, unlearnt_fact, learnt_fact, flood_to, flood_fact, acl_fact, built}
use Rattle.forward_program.specs.Spots.{Entries}
use Rattle.forward_program.specs.Hosts.{port_of, host, there_in}
use Rattle.forward_program.specs.Shown.{rows_shown, shown}
use Rattle.forward_program.specs.Joins.{Bound, bound_in, of_in, place_in, flood_in, rules_in, address_at, is_bound_at, is_listed_at, fact_at, facts_of}
use Rattle.forward_program.proofs.InLists.{in_front, in_back, in_either, in_map, map_in, in_picked, picked_in}
use Rattle.forward_program.proofs.RowsIn.{in_rows, rows_in}
use Rattle.forward_program.proofs.MapLists.{get_in}
use Rattle.forward_program.proofs.SpotOrder.{spot_exact}
use Rattle.forward_program.proofs.Known.{KnownHost, known_at, at_known}
use Rattle.forward_program.proofs.Unique.{some_of}
use Rattle.forward_program.proofs.ListedLaws.{listed_is}
use Rattle.forward_program.proofs.JoinLaws.{address_is, addresses_are, mode_is, bound_is}

bound_map : {A B : Type 0} (f : A → B) (b : Bool) (x : A) → option_map f (if_bound b (Some x)) ≡ if_bound b (Some (f x))
bound_map f true x = refl
bound_map f false x = refl

host_fact : (s m : ℕ) (b : Bool) (o : Option ℕ) → option_map (fact.Mac s m) (option_and_then (λ place. if_bound (is_here place || b) (Some place)) (option_map There o)) ≡ if_bound b (option_map (λ ip. fact.Mac s m (There ip)) o)
host_fact s m true None = refl
host_fact s m false None = refl
host_fact s m true (Some ip) = refl
host_fact s m false (Some ip) = refl

nothing_bound : {A : Type 0} (b : Bool) (x : A) → if_bound b None ≡ Some x → ⊥
nothing_bound true x e = cc
nothing_bound false x e = cc

-- what is said stands somewhere
pub something : (m : Entries) (k : Spot) (f : Fact) → fact_at m k ≡ Some f → (h : Held) × (maps.get m k ≡ Some h)
something m k f is = by (maps.get m k) refl
  where
    none : (q : Spot) → maps.get m q ≡ None → fact_at m q ≡ Some f → ⊥
    none (spot.Port p v) e g = let clash : None ≡ Some f = ap (λ o. option_map (λ (b : Bound). fact.Bind p v b.switch (acl_rows b.lists)) (bound_in o)) (sym e) ∙ g in cc
    none (spot.Switch s part.Itself) e g = cc
    none (spot.Switch s (part.Member p v)) e g = cc
    none (spot.Switch s (part.Group x)) e g = nothing_bound (is_bound_at m s) f (ap (λ o. if_bound (is_bound_at m s) (flood_to s x (flood_in m s o))) (sym e) ∙ g)
    none (spot.Switch s (part.Host x)) e g =
        let clash : None ≡ Some f = ap (λ o. option_map (fact.Mac s x) (option_and_then (λ place. if_bound (is_here place || is_bound_at m s) (Some place)) (place_in m o))) (sym e) ∙ g in
        cc
    none (spot.Vni n) e g = let clash : None ≡ Some f = ap (λ o. option_map (fact.Vni n) (option_and_then (λ s. if_bound (is_bound_at m s) (Some s)) (of_in o))) (sym e) ∙ g in cc
    none (spot.Set i) e g = cc
    none (spot.Locator i) e g = cc
    none (spot.Acl i) e g = unlisted (is_listed_at m i) (ap (λ o. if is_listed_at m i then option_map (fact.Acl i) (rules_in o) else None) (sym e) ∙ g)
      where
        unlisted : (b : Bool) → (if b then None else None) ≡ Some f → ⊥
        unlisted true h = cc
        unlisted false h = cc

    by : (o : Option Held) → maps.get m k ≡ o → (h : Held) × (maps.get m k ≡ Some h)
    by None e = absurd (none k e is)
    by (Some h) e = (h, e)

module _ (r : Rows) (learnt : List Learnt) (rows : IsRows r) (sound : Sound r) (once : IsOnce learnt) where
  abbrev m : Entries
  m = shown r learnt

  -- ---- the fact of a place, by what gives it

  pub bind_at : (b : Binding) → IsIn b (bindings r) → fact_at m (spot.Port b.port b.vlan) ≡ Some (bind_fact b)
  bind_at b there =
      ap (λ o. option_map (λ (c : Bound). fact.Bind b.port b.vlan c.switch (acl_rows c.lists)) (bound_in o))
      (known_at r learnt rows sound once (spot.Port b.port b.vlan) (held.Bound b.switch b.lists) (b, there, refl, refl, refl))

  pub network_at_row : (id : ℕ) (row : Contents) (n : ℕ) → row_at r (LogicalSwitch, id) ≡ Some row → number_at row LogicalTunnelKey ≡ Some n → fact_at m (spot.Vni n) ≡ vni_fact r (id, row)
  network_at_row id row n at known =
      ap (λ o. option_map (fact.Vni n) (option_and_then (λ s. if_bound (is_bound_at m s) (Some s)) (of_in o))) (known_at r learnt rows sound once (spot.Vni n) (held.Of id) (id, row, at, known, refl))
      ∙ bound_map (fact.Vni n) (is_bound_at m id) id
      ∙ (λ i. if_bound (bound_is r learnt rows sound once id i) (option_map (λ vni. fact.Vni vni id) (sym known i)))

  remote_at : (id : ℕ) (row : Contents) (x : Remote) → row_at r (UcastMacsRemote, id) ≡ Some row → remote_of row ≡ Some x → found x.switch x.mac learnt ≡ None → fact_at m (host x.switch x.mac) ≡ remote_fact r x
  remote_at id row x at known none =
      ap (λ o. option_map (fact.Mac x.switch x.mac) (option_and_then (λ place. if_bound (is_here place || is_bound_at m x.switch) (Some place)) (place_in m o)))
      (known_at r learnt rows sound once (host x.switch x.mac) (held.Host None (Some x.locator)) (inr (none, (id, row, at, x, known, refl, refl, refl))))
      ∙ host_fact x.switch x.mac (is_bound_at m x.switch) (address_at m x.locator)
      ∙ (λ i. if_bound (bound_is r learnt rows sound once x.switch i) (option_map (λ ip. fact.Mac x.switch x.mac (There ip)) (address_is r learnt rows sound once x.locator i)))

  unlearnt_at : (id : ℕ) (row : Contents) (x : Remote) → row_at r (UcastMacsRemote, id) ≡ Some row → remote_of row ≡ Some x → found x.switch x.mac learnt ≡ None → fact_at m (host x.switch x.mac) ≡ unlearnt_fact r learnt x
  unlearnt_at id row x at known none = remote_at id row x at known none ∙ ap (λ o. if is_some o then None else remote_fact r x) (sym none)

  -- a remote row whose address is learnt says nothing
  not_learnt : (x : Remote) (f : Fact) → unlearnt_fact r learnt x ≡ Some f → found x.switch x.mac learnt ≡ None
  not_learnt x f is = by (found x.switch x.mac learnt) refl
    where
      by : (o : Option Learnt) → found x.switch x.mac learnt ≡ o → o ≡ None
      by None e = refl
      by (Some d) e = let clash : None ≡ Some f = ap (λ o. if is_some o then None else remote_fact r x) (sym e) ∙ is in cc

  learnt_at : (e : Learnt) → IsIn e learnt → fact_at m (host e.switch e.mac) ≡ Some (learnt_fact e)
  learnt_at e is =
      ap (λ o. option_map (fact.Mac e.switch e.mac) (option_and_then (λ place. if_bound (is_here place || is_bound_at m e.switch) (Some place)) (place_in m o)))
      (known_at r learnt rows sound once (host e.switch e.mac) (held.Host (Some (port_of e)) (there_in (maps.get (rows_shown r) (host e.switch e.mac)))) (inl (e, is, refl, refl, refl)))

  group_at : (id : ℕ) (row : Contents) (x : Group) → row_at r (McastMacsRemote, id) ≡ Some row → group_of row ≡ Some x → fact_at m (spot.Switch x.switch (part.Group x.group)) ≡ flood_fact r x
  group_at id row x at known =
      ap (λ o. if_bound (is_bound_at m x.switch) (flood_to x.switch x.group (flood_in m x.switch o)))
      (known_at r learnt rows sound once (spot.Switch x.switch (part.Group x.group)) (held.Set x.set) (id, row, at, x, known, refl, refl, refl))
      ∙ (λ i. if_bound (bound_is r learnt rows sound once x.switch i) (flood_to x.switch x.group (targets (mode_is r learnt rows sound once x.switch i) (addresses_are r learnt rows sound once x.set i))))

  acl_at : (id : ℕ) (row : Contents) → row_at r (Acl, id) ≡ Some row → fact_at m (spot.Acl id) ≡ acl_fact r (id, row)
  acl_at id row at =
      ap (λ o. if is_listed_at m id then option_map (fact.Acl id) (rules_in o) else None) (known_at r learnt rows sound once (spot.Acl id) (held.Rules (entries_at r row)) (row, at, refl))
      ∙ ap (λ b. if b then Some (fact.Acl id (entries_at r row)) else None) (listed_is r learnt rows sound once id)

  -- ---- the six parts of what is built

  abbrev networks : List Fact
  networks = filter_map (vni_fact r) (rows_of LogicalSwitch r)

  abbrev bound_facts : List Fact
  bound_facts = map bind_fact (bindings r)

  abbrev learnt_facts : List Fact
  learnt_facts = map learnt_fact learnt

  abbrev remote_facts : List Fact
  remote_facts = filter_map (λ (e : ℕ × Contents). option_and_then (unlearnt_fact r learnt) (remote_of e.1)) (rows_of UcastMacsRemote r)

  abbrev flood_facts : List Fact
  flood_facts = filter_map (λ (e : ℕ × Contents). option_and_then (flood_fact r) (group_of e.1)) (rows_of McastMacsRemote r)

  abbrev bound_part : List Fact
  bound_part = networks ++ bound_facts

  abbrev learnt_part : List Fact
  learnt_part = bound_part ++ learnt_facts

  abbrev remote_part : List Fact
  remote_part = learnt_part ++ remote_facts

  abbrev flood_part : List Fact
  flood_part = remote_part ++ flood_facts

  abbrev acl_facts : List Fact
  acl_facts = filter_map (acl_fact r) (rows_of Acl r)

  in_flood : (f : Fact) → IsIn f flood_part → IsIn f (built r learnt)
  in_flood f h = in_front f flood_part acl_facts h

  in_bound : (f : Fact) → IsIn f bound_part → IsIn f (built r learnt)
  in_bound f h = in_flood f (in_front f remote_part flood_facts (in_front f learnt_part remote_facts (in_front f bound_part learnt_facts h)))

  in_learnt : (f : Fact) → IsIn f learnt_facts → IsIn f (built r learnt)
  in_learnt f h = in_flood f (in_front f remote_part flood_facts (in_front f learnt_part remote_facts (in_back f bound_part learnt_facts h)))

  in_remote : (f : Fact) → IsIn f remote_facts → IsIn f (built r learnt)
  in_remote f h = in_flood f (in_front f remote_part flood_facts (in_back f learnt_part remote_facts h))

  -- an address that is learnt, or has a remote row
  host_said : (s a : ℕ) (f : Fact) (h : Held) → fact_at m (host s a) ≡ Some f → KnownHost r learnt s a h → IsIn f (built r learnt)
  host_said s a f h is (inl (e, listed, at_switch, at_mac, value)) =
      let same : Some (learnt_fact e) ≡ Some f = sym (learnt_at e listed) ∙ (λ i. fact_at m (host (at_switch i) (at_mac i))) ∙ is in
      in_learnt f (subst (λ g. IsIn g learnt_facts) (same_some (learnt_fact e) f same) (map_in learnt_fact e learnt listed))
  host_said s a f h is (inr (none, (id, row, at, x, known, at_switch, at_mac, value))) =
      let same : unlearnt_fact r learnt x ≡ Some f =
      sym (unlearnt_at id row x at known ((λ i. found (at_switch i) (at_mac i) learnt) ∙ none)) ∙ (λ i. fact_at m (host (at_switch i) (at_mac i))) ∙ is in
      in_remote f
      (picked_in (λ (e : ℕ × Contents). option_and_then (unlearnt_fact r learnt) (remote_of e.1)) f (id, row) (rows_of UcastMacsRemote r) (rows_in r UcastMacsRemote id row at) (ap (option_and_then (unlearnt_fact r learnt)) known ∙ same))

  -- what a place says is built
  said_given : (k : Spot) (f : Fact) → fact_at m k ≡ Some f → (h : Held) → maps.get m k ≡ Some h → IsIn f (built r learnt)
  said_given (spot.Port p v) f is h there =
      let x = at_known r learnt rows sound once (spot.Port p v) h there in
      let same : Some (bind_fact x.0) ≡ Some f = sym (bind_at x.0 x.1) ∙ (λ i. fact_at m (spot.Port (x.2 i) (x.3 i))) ∙ is in
      in_bound f (in_back f networks bound_facts (subst (λ g. IsIn g bound_facts) (same_some (bind_fact x.0) f same) (map_in bind_fact x.0 (bindings r) x.1)))
  said_given (spot.Vni n) f is h there =
      let x = at_known r learnt rows sound once (spot.Vni n) h there in
      in_bound f (in_front f networks bound_facts
      (picked_in (vni_fact r) f (x.0, x.1) (rows_of LogicalSwitch r) (rows_in r LogicalSwitch x.0 x.1 x.2) (sym (network_at_row x.0 x.1 n x.2 x.3) ∙ is)))
  said_given (spot.Switch s (part.Host a)) f is h there = host_said s a f h is (at_known r learnt rows sound once (spot.Switch s (part.Host a)) h there)
  said_given (spot.Switch s (part.Group g)) f is h there =
      let x = at_known r learnt rows sound once (spot.Switch s (part.Group g)) h there in
      let same : flood_fact r x.3 ≡ Some f = sym (group_at x.0 x.1 x.3 x.2 x.4) ∙ (λ i. fact_at m (spot.Switch (x.5 i) (part.Group (x.6 i)))) ∙ is in
      in_flood f (in_back f remote_part flood_facts
      (picked_in (λ (e : ℕ × Contents). option_and_then (flood_fact r) (group_of e.1)) f (x.0, x.1) (rows_of McastMacsRemote r) (rows_in r McastMacsRemote x.0 x.1 x.2) (ap (option_and_then (flood_fact r)) x.4 ∙ same)))
  said_given (spot.Switch s part.Itself) f is h there = cc
  said_given (spot.Switch s (part.Member p v)) f is h there = cc
  said_given (spot.Set i) f is h there = cc
  said_given (spot.Locator i) f is h there = cc
  said_given (spot.Acl i) f is h there =
      let x = at_known r learnt rows sound once (spot.Acl i) h there in
      in_back f flood_part acl_facts (picked_in (acl_fact r) f (i, x.0) (rows_of Acl r) (rows_in r Acl i x.0 x.1) (sym (acl_at i x.0 x.1) ∙ is))

  pub said_built : (k : Spot) (f : Fact) → fact_at m k ≡ Some f → IsIn f (built r learnt)
  said_built k f is = let h = something m k f is in said_given k f is h.0 h.1

  -- what is built is said at a place
  numbered : (f : Fact) (e : ℕ × Contents) → row_at r (LogicalSwitch, e.0) ≡ Some e.1 → (o : Option ℕ) → number_at e.1 LogicalTunnelKey ≡ o → vni_fact r e ≡ Some f → (k : Spot) × (fact_at m k ≡ Some f)
  numbered f e at None known is_fact = absurd (nothing_bound (is_bound r e.0) f (ap (λ o. if_bound (is_bound r e.0) (option_map (λ vni. fact.Vni vni e.0) o)) (sym known) ∙ is_fact))
  numbered f e at (Some n) known is_fact = (spot.Vni n, network_at_row e.0 e.1 n at known ∙ is_fact)

  bound_said : (f : Fact) → IsIn f bound_part → (k : Spot) × (fact_at m k ≡ Some f)
  bound_said f is = elim (in_either f networks bound_facts is) [
    | inr in_binds ↦ (let b = in_map bind_fact f (bindings r) in_binds in (spot.Port b.0.port b.0.vlan, bind_at b.0 b.1 ∙ ap Some (sym b.2)))
    | inl in_networks ↦
        let e = in_picked (vni_fact r) f (rows_of LogicalSwitch r) in_networks in
        numbered f e.0 (in_rows r LogicalSwitch e.0 e.1) (number_at e.0.1 LogicalTunnelKey) refl e.2
  ]

  learnt_said : (f : Fact) → IsIn f learnt_part → (k : Spot) × (fact_at m k ≡ Some f)
  learnt_said f is = elim (in_either f bound_part learnt_facts is) [
    | inr in_heres ↦ (let e = in_map learnt_fact f learnt in_heres in (host e.0.switch e.0.mac, learnt_at e.0 e.1 ∙ ap Some (sym e.2)))
    | inl front ↦ bound_said f front
  ]

  remote_said : (f : Fact) → IsIn f remote_part → (k : Spot) × (fact_at m k ≡ Some f)
  remote_said f is = elim (in_either f learnt_part remote_facts is) [
    | inr in_remotes ↦
        let e = in_picked (λ (e : ℕ × Contents). option_and_then (unlearnt_fact r learnt) (remote_of e.1)) f (rows_of UcastMacsRemote r) in_remotes in
        let x = some_of (unlearnt_fact r learnt) (remote_of e.0.1) f e.2 in
        (host x.0.switch x.0.mac, unlearnt_at e.0.0 e.0.1 x.0 (in_rows r UcastMacsRemote e.0 e.1) x.1 (not_learnt x.0 f x.2) ∙ x.2)
    | inl front ↦ learnt_said f front
  ]

  flood_said : (f : Fact) → IsIn f flood_part → (k : Spot) × (fact_at m k ≡ Some f)
  flood_said f is = elim (in_either f remote_part flood_facts is) [
    | inr in_floods ↦
        let e = in_picked (λ (e : ℕ × Contents). option_and_then (flood_fact r) (group_of e.1)) f (rows_of McastMacsRemote r) in_floods in
        let x = some_of (flood_fact r) (group_of e.0.1) f e.2 in
        (spot.Switch x.0.switch (part.Group x.0.group), group_at e.0.0 e.0.1 x.0 (in_rows r McastMacsRemote e.0 e.1) x.1 ∙ x.2)
    | inl front ↦ remote_said f front
  ]

  pub built_said : (f : Fact) → IsIn f (built r learnt) → (k : Spot) × (fact_at m k ≡ Some f)
  built_said f is = elim (in_either f flood_part acl_facts is) [
    | inr in_acls ↦
        let e = in_picked (acl_fact r) f (rows_of Acl r) in_acls in
        (spot.Acl e.0.0, acl_at e.0.0 e.0.1 (in_rows r Acl e.0 e.1) ∙ e.2)
    | inl front ↦ flood_said f front
  ]

  -- the facts are those that are built
  pub facts_built : (f : Fact) → IsIn f (facts_of m) → IsIn f (built r learnt)
  facts_built f is = let k = in_picked (fact_at m) f (maps.keys m) is in said_built k.0 f k.2

  pub built_facts : (f : Fact) → IsIn f (built r learnt) → IsIn f (facts_of m)
  built_facts f is =
      let k = built_said f is in
      let h = something m k.0 f k.1 in
      picked_in (fact_at m) f k.0 (maps.keys m) (map_in (λ (e : Spot × Held). e.0) (k.0, h.0) m.list (get_in spot_exact m k.0 h.0 h.1)) k.1
