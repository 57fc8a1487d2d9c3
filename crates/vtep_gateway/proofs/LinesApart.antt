-- In the text of sound rows no two facts have one place, so that the line of each stands there.
use Rattle.std.proofs.Common.{◌≡◌, ◌≤◌, inl, inr, ℕ, suc, nat_le, Bool, true, false, ◌&&◌, ◌||◌, List, [], ◌∷◌, map, length, is_some, Option, Some, None, refl, sym, ap, subst, ◌∙◌, true≢false, arith}
use Rattle.std.specs.List.{list_all, filter_map}
use Rattle.std.specs.Option.{option_map, option_and_then, unwrap_or}
use Rattle.std.specs.Ordering.{nat_cmp, ordering_then}
use Rattle.std.specs.Cmp.Lexicographic.{slice_cmp}
use Rattle.std.specs.Cmp.{IsTotalOrder, first_so, second_so}
use Rattle.std.specs.FinMap.{IsAntisymmetric}
use Rattle.std.specs.declared.cmp.Ordering.{Ordering}
use Rattle.std.specs.declared.cmp.Ordering.TheVariants.{Less, Equal, Greater}
use Rattle.std.proofs.lemmas.Map.Lookups.{exact_bytes, exact_unsigned}
use Rattle.vtep_base.specs.Reading.{Bytes}
use Rattle.vtep_base.specs.Maps as maps
use Rattle.ovsdb_values.specs.declared.atoms.Atom.{Atom}
use Rattle.ovsdb_values.specs.declared.atoms.Atom.TheVariants.{Integer, Text, Id, Named}
use Rattle.ovsdb_values.specs.declared.datums.Datum.{Datum}
use Rattle.ovsdb_values.specs.declared.datums.Datum.TheVariants as datum
use Rattle.vtep_schema.specs.declared.Table.{Table}
use Rattle.vtep_schema.specs.declared.Table.TheVariants.{LogicalSwitch, UcastMacsRemote, McastMacsRemote}
use Rattle.vtep_schema.specs.declared.Column.{Column}
use Rattle.vtep_schema.specs.declared.Column.TheVariants.{LogicalName, LogicalTunnelKey, UcastRemoteLogicalSwitch, UcastRemoteMac, UcastRemoteLocator, McastRemoteLogicalSwitch, McastRemoteMac, McastRemoteLocatorSet}
use Rattle.vtep_schema.specs.declared.rules.Domain.TheVariants as domain
use Rattle.vtep_schema.specs.Tables.{column_rule, belongs}
use Rattle.vtep_schema.specs.Orders.{column_exact}
use Rattle.vtep_rows.specs.Row.{Contents, is_row, allowed, atom_allowed, reference, references, references_in, set_in, atoms_at, text_at, text_in, id_in, first}
use Rattle.vtep_rows.specs.Rows.{Rows, IsRows, row_at}
use Rattle.vtep_rows.specs.Sound.{Sound, hold_same, agree}
use Rattle.vtep_rows.proofs.Entries.{both, same_some}
use Rattle.vtep_rows.proofs.Kept.{its_contents, its_table, so_le}
use Rattle.vtep_rows.proofs.RowLaws.{not_absent, value_allowed}
use Rattle.forward_program.specs.declared.spots.Spot.TheVariants as spot
use Rattle.forward_program.specs.declared.spots.Part.TheVariants as part
use Rattle.mac_learning.specs.declared.Learnt.{Learnt}
use Rattle.forward_program.specs.declared.held.Held.{Held}
use Rattle.forward_program.specs.declared.readings.Remote.{Remote}
use Rattle.forward_program.specs.declared.readings.Group.{Group}
use Rattle.forward_program.specs.declared.facts.Fact.{Fact}
use Rattle.forward_program.specs.declared.facts.Fact.TheVariants as fact
use Rattle.forward_program.specs.declared.facts.Place.{Place}
use Rattle.forward_program.specs.Readings.{text_in_row, id_at, mac_at, remote, remote_of, group, group_in, group_of}
use Rattle.forward_program.specs.Built.{IsIn}
use Rattle.forward_program.specs.Spots.{Entries}
use Rattle.forward_program.specs.Shown.{shown}
use Rattle.forward_program.specs.Joins.{fact_at, facts_of}
use Rattle.forward_program.proofs.Columns.{hold_one}
use Rattle.forward_program.proofs.InLists.{flat_in, in_map, map_in, in_picked, picked_in}
use Rattle.forward_program.proofs.MapLists.{get_in, in_has, from_entries}
use Rattle.forward_program.proofs.Unique.{some_of, map_of}
use Rattle.forward_program.proofs.FactLaws.{something}
use Rattle.forward_program.proofs.Known.{KnownHost, at_known}
use Rattle.forward_program.proofs.Once.{spot_of, its_place}
use Rattle.local_tables.specs.Followed.{is_named_by_port, is_bound_there}
use Rattle.local_tables.proofs.Members.{all_in}
use Rattle.local_tables.proofs.Bound.{bound_switch}
use Rattle.vtep_gateway.specs.Good.{IsGood}
use Rattle.vtep_gateway.specs.declared.lines.Line.{Line}
use Rattle.vtep_gateway.specs.declared.lines.Line.TheVariants as line
use Rattle.vtep_gateway.specs.contracts.lines.LineOrd.TheImpl.Laws as line_laws
use Rattle.vtep_gateway.specs.Show.{switch_name, line_cmp, key_of, line_of, entry_of, lines_of}

-- ---- the order of lines

line_total : IsTotalOrder line_cmp
line_total = line_laws.total-law

both_equal : (r q : Ordering) → ordering_then r q ≡ Equal → (r ≡ Equal) × (q ≡ Equal)
both_equal Less q e = cc
both_equal Equal q e = (refl, e)
both_equal Greater q e = cc

line_exact : IsAntisymmetric line_cmp
line_exact (line.Vni m) (line.Vni n) e = ap line.Vni (exact_unsigned m n e)
line_exact (line.Bind p v) (line.Bind q w) e = let h = both_equal _ _ e in λ i. line.Bind (exact_bytes p q h.0 i) (exact_unsigned v w h.1 i)
line_exact (line.Mac s m) (line.Mac t n) e = let h = both_equal _ _ e in λ i. line.Mac (exact_bytes s t h.0 i) (exact_unsigned m n h.1 i)
line_exact (line.Acl m) (line.Acl n) e = ap line.Acl (exact_unsigned m n e)
line_exact (line.Flood s None) (line.Flood t None) e = let h = both_equal _ _ e in λ i. line.Flood (exact_bytes s t h.0 i) None
line_exact (line.Flood s (Some m)) (line.Flood t (Some n)) e = let h = both_equal _ _ e in λ i. line.Flood (exact_bytes s t h.0 i) (Some (exact_unsigned m n h.1 i))
line_exact (line.Flood s None) (line.Flood t (Some n)) e = let clash : Less ≡ Equal = (both_equal (slice_cmp nat_cmp s t) Less e).1 in cc
line_exact (line.Flood s (Some m)) (line.Flood t None) e = let clash : Greater ≡ Equal = (both_equal (slice_cmp nat_cmp s t) Greater e).1 in cc
line_exact a b e = cc

-- what a line is of
abbrev name_in : Line → Bytes
name_in (line.Vni vni) = []
name_in (line.Bind port vlan) = port
name_in (line.Mac name mac) = name
name_in (line.Flood name group) = name
name_in (line.Acl acl) = []

abbrev number_in : Line → ℕ
number_in (line.Vni vni) = vni
number_in (line.Bind port vlan) = vlan
number_in (line.Mac name mac) = mac
number_in (line.Flood name group) = 0
number_in (line.Acl acl) = acl

abbrev group_line : Line → Option ℕ
group_line (line.Flood name group) = group
group_line l = None

-- ---- names of switches

two : (k : ℕ) → nat_le (suc (suc k)) 1 ≡ true → ⊥
two k few = let below : suc (suc k) ≤ 1 = so_le (suc (suc k)) 1 few in omega arith

only_text : (xs : List Atom) → allowed LogicalName (datum.Set xs) ≡ true → (t : Bytes) × (xs ≡ Text t ∷ [])
only_text [] h = cc
only_text (Integer z ∷ []) h = cc
only_text (Text t ∷ []) h = (t, refl)
only_text (Id u ∷ []) h = cc
only_text (Named t ∷ []) h = cc
only_text (x ∷ y ∷ xs) h =
    let n = suc (suc (length xs)) in
    absurd (two (length xs) (second_so (nat_le 1 n) (nat_le n 1) (first_so (nat_le 1 n && nat_le n 1) (list_all (atom_allowed domain.Text) (x ∷ y ∷ xs)) h)))

named_by : (d : Datum) → allowed LogicalName d ≡ true → (t : Bytes) × (set_in d ≡ Text t ∷ [])
named_by (datum.Set xs) h = only_text xs h
named_by (datum.Map ps) h = cc

first_key : (p q : Bool) → p ≡ true → (p || (q || false)) ≡ true
first_key true q e = refl
first_key false q e = cc

-- ---- the row that a column names

first_in : (xs : List Atom) (u : ℕ) → first (filter_map id_in xs) ≡ Some u → IsIn (Id u) xs
first_in [] u e = cc
first_in (Integer z ∷ xs) u e = inr (first_in xs u e)
first_in (Text t ∷ xs) u e = inr (first_in xs u e)
first_in (Id v ∷ xs) u e = inl (ap Id (sym (same_some v u e)))
first_in (Named t ∷ xs) u e = inr (first_in xs u e)

named_in : (c : Column) (t : Table) (d : Datum) (u : ℕ) → (column_rule c).key ≡ domain.Row t → first (filter_map id_in (set_in d)) ≡ Some u → IsIn (t, u) (references_in (column_rule c) d)
named_in c t (datum.Set xs) u key e = picked_in (reference (column_rule c).key) (t, u) (Id u) xs (first_in xs u e) (ap (λ k. reference k (Id u)) key)
named_in c t (datum.Map ps) u key e = cc

row_names : (row : Contents) (c : Column) (t : Table) (u : ℕ) → (column_rule c).key ≡ domain.Row t → id_at row c ≡ Some u → IsIn (t, u) (references row)
row_names row c t u key e = by (maps.get row.values c) refl
  where
    by : (o : Option Datum) → maps.get row.values c ≡ o → IsIn (t, u) (references row)
    by None is = let clash : None ≡ Some u = ap (λ o. first (filter_map id_in (set_in (unwrap_or o (datum.Set []))))) (sym is) ∙ e in cc
    by (Some d) is =
        flat_in (λ (x : Column × Datum). references_in (column_rule x.0) x.1) (t, u) (c, d) row.values.list (get_in column_exact row.values c d is)
        (named_in c t d u key (ap (λ o. first (filter_map id_in (set_in (unwrap_or o (datum.Set []))))) (sym is) ∙ e))

-- the switch of a remote row
remote_switch : (row : Contents) (x : Remote) → remote_of row ≡ Some x → id_at row UcastRemoteLogicalSwitch ≡ Some x.switch
remote_switch row x is =
    let s = some_of (λ switch. option_and_then (λ mac. option_map (remote switch mac) (id_at row UcastRemoteLocator)) (mac_at row UcastRemoteMac)) (id_at row UcastRemoteLogicalSwitch) x is in
    let m = some_of (λ mac. option_map (remote s.0 mac) (id_at row UcastRemoteLocator)) (mac_at row UcastRemoteMac) x s.2 in
    let l = map_of (remote s.0 m.0) (id_at row UcastRemoteLocator) x m.2 in
    s.1 ∙ ap (λ (y : Remote). Some y.switch) (sym l.2)

group_switch : (row : Contents) (x : Group) → group_of row ≡ Some x → id_at row McastRemoteLogicalSwitch ≡ Some x.switch
group_switch row x is =
    let s = some_of (λ switch. option_and_then (λ mac. option_map (group switch mac) (id_at row McastRemoteLocatorSet)) (option_and_then group_in (text_in_row row McastRemoteMac))) (id_at row McastRemoteLogicalSwitch) x is in
    let m = some_of (λ mac. option_map (group s.0 mac) (id_at row McastRemoteLocatorSet)) (option_and_then group_in (text_in_row row McastRemoteMac)) x s.2 in
    let l = map_of (group s.0 m.0) (id_at row McastRemoteLocatorSet) x m.2 in
    s.1 ∙ ap (λ (y : Group). Some y.switch) (sym l.2)

module _ (r : Rows) (learnt : List Learnt) (good : IsGood r learnt) where
  rows : IsRows r
  rows = good.settled.rows

  sound : Sound r
  sound = good.settled.sound

  -- a switch has one name
  named : (s : ℕ) (row : Contents) → row_at r (LogicalSwitch, s) ≡ Some row → (t : Bytes) × (atoms_at row LogicalName ≡ Text t ∷ [])
  named s row at = by (maps.get row.values LogicalName) refl
    where
      is : is_row row ≡ true
      is = its_contents r LogicalSwitch s row rows at

      by : (o : Option Datum) → maps.get row.values LogicalName ≡ o → (t : Bytes) × (atoms_at row LogicalName ≡ Text t ∷ [])
      by None e = absurd (not_absent row LogicalName is (ap (belongs LogicalName) (its_table r LogicalSwitch s row rows at)) e)
      by (Some d) e = let n = named_by d (value_allowed row LogicalName d is e) in (n.0, ap (λ o. set_in (unwrap_or o (datum.Set []))) e ∙ n.1)

  name_is : (s : ℕ) (row : Contents) (t : Bytes) → row_at r (LogicalSwitch, s) ≡ Some row → atoms_at row LogicalName ≡ Text t ∷ [] → switch_name r s ≡ t
  name_is s row t at alone = ap (λ o. unwrap_or (option_map (λ (x : Contents). text_at x LogicalName) o) []) at ∙ ap (λ xs. unwrap_or (first (filter_map text_in xs)) []) alone

  -- and no two have the same
  one_name : (s u : ℕ) (a b : Contents) → row_at r (LogicalSwitch, s) ≡ Some a → row_at r (LogicalSwitch, u) ≡ Some b → switch_name r s ≡ switch_name r u → s ≡ u
  one_name s u a b at bt same =
      let x = named s a at in
      let y = named u b bt in
      let text : y.0 ≡ x.0 = sym (name_is u b y.0 bt y.1) ∙ sym same ∙ name_is s a x.0 at x.1 in
      sound.unique LogicalSwitch s u a b at bt
      (first_key (agree (LogicalName ∷ []) a b) (agree (LogicalTunnelKey ∷ []) a b)
      (both (hold_same (atoms_at a LogicalName) (atoms_at b LogicalName)) true
      (hold_one (Text x.0) (atoms_at a LogicalName) (atoms_at b LogicalName) x.1 (y.1 ∙ ap (λ t. Text t ∷ []) text)) refl))

  abbrev IsThere : ℕ → Type 0
  IsThere s = (row : Contents) × (row_at r (LogicalSwitch, s) ≡ Some row)

  is_there : (s : ℕ) → maps.has r.rows (LogicalSwitch, s) ≡ true → IsThere s
  is_there s has = by (row_at r (LogicalSwitch, s)) refl
    where
      by : (o : Option Contents) → row_at r (LogicalSwitch, s) ≡ o → IsThere s
      by None none = absurd (true≢false (sym has ∙ ap is_some none))
      by (Some a) is = (a, is)

  -- a switch that a row names is there
  named_there : (t : Table) (i : ℕ) (row : Contents) (c : Column) (s : ℕ) → row_at r (t, i) ≡ Some row → (column_rule c).key ≡ domain.Row LogicalSwitch → id_at row c ≡ Some s → IsThere s
  named_there t i row c s at key e = is_there s (all_in (maps.has r.rows) (references row) (LogicalSwitch, s) (sound.there (t, i) row at) (row_names row c LogicalSwitch s key e))

  -- the switch of a learnt address is there
  learnt_there : (e : Learnt) → IsIn e learnt → IsThere e.switch
  learnt_there e is =
      is_there e.switch (first_so (maps.has r.rows (LogicalSwitch, e.switch)) (is_named_by_port r e.switch) (bound_switch r sound e (all_in (is_bound_there r) learnt e good.local.bound is)))

  -- ---- the facts

  abbrev m : Entries
  m = shown r learnt

  at_place : (f : Fact) → IsIn f (facts_of m) → fact_at m (spot_of f) ≡ Some f
  at_place f is = let k = in_picked (fact_at m) f (maps.keys m) is in ap (fact_at m) (its_place m k.0 f k.2) ∙ k.2

  host_there : (s a : ℕ) (h : Held) → KnownHost r learnt s a h → IsThere s
  host_there s a h (inl (e, listed, at_switch, at_mac, value)) = subst IsThere at_switch (learnt_there e listed)
  host_there s a h (inr (none, (i, row, at, x, known, at_switch, at_mac, value))) = named_there UcastMacsRemote i row UcastRemoteLogicalSwitch s at refl (remote_switch row x known ∙ ap Some at_switch)

  mac_switch : (s a : ℕ) (p : Place) → IsIn (fact.Mac s a p) (facts_of m) → IsThere s
  mac_switch s a p is =
      let h = something m (spot.Switch s (part.Host a)) (fact.Mac s a p) (at_place (fact.Mac s a p) is) in
      host_there s a h.0 (at_known r learnt rows sound good.local.once (spot.Switch s (part.Host a)) h.0 h.1)

  flood_switch : (s : ℕ) (a : Option ℕ) (ips : List ℕ) → IsIn (fact.Flood s a ips) (facts_of m) → IsThere s
  flood_switch s a ips is =
      let h = something m (spot.Switch s (part.Group a)) (fact.Flood s a ips) (at_place (fact.Flood s a ips) is) in
      let g = at_known r learnt rows sound good.local.once (spot.Switch s (part.Group a)) h.0 h.1 in
      named_there McastMacsRemote g.0 g.1 McastRemoteLogicalSwitch s g.2 refl (group_switch g.1 g.3 g.4 ∙ ap Some g.5)

  same_spot : (f g : Fact) → IsIn f (facts_of m) → IsIn g (facts_of m) → key_of r f ≡ key_of r g → spot_of f ≡ spot_of g
  same_spot (fact.Vni v s) (fact.Vni w u) is js e = ap (λ l. spot.Vni (number_in l)) e
  same_spot (fact.Bind p v s ls) (fact.Bind q w u ks) is js e = ap (λ l. spot.Port (name_in l) (number_in l)) e
  same_spot (fact.Acl a es) (fact.Acl b fs) is js e = ap (λ l. spot.Acl (number_in l)) e
  same_spot (fact.Mac s a p) (fact.Mac u b q) is js e =
      let x = mac_switch s a p is in
      let y = mac_switch u b q js in
      let same = one_name s u x.0 y.0 x.1 y.1 (ap name_in e) in
      λ i. spot.Switch (same i) (part.Host (number_in (e i)))
  same_spot (fact.Flood s a ips) (fact.Flood u b jps) is js e =
      let x = flood_switch s a ips is in
      let y = flood_switch u b jps js in
      let same = one_name s u x.0 y.0 x.1 y.1 (ap name_in e) in
      λ i. spot.Switch (same i) (part.Group (group_line (e i)))
  same_spot f g is js e = cc

  pub own_line : (f g : Fact) → IsIn f (facts_of m) → IsIn g (facts_of m) → key_of r f ≡ key_of r g → f ≡ g
  own_line f g is js e = same_some f g (sym (at_place f is) ∙ ap (fact_at m) (same_spot f g is js e) ∙ at_place g js)

  pub line_there : (f : Fact) → IsIn f (facts_of m) → maps.get (lines_of r (facts_of m)) (key_of r f) ≡ Some (line_of r f)
  line_there f is = by (maps.get (lines_of r (facts_of m)) (key_of r f)) refl
    where
      by : (o : Option Bytes) → maps.get (lines_of r (facts_of m)) (key_of r f) ≡ o → maps.get (lines_of r (facts_of m)) (key_of r f) ≡ Some (line_of r f)
      by None e =
          let has : maps.has (lines_of r (facts_of m)) (key_of r f) ≡ true = in_has line_total (map (entry_of r) (facts_of m)) maps.empty (key_of r f) (line_of r f) (map_in (entry_of r) f (facts_of m) is) in
          let clash : false ≡ true = ap is_some (sym e) ∙ has in
          cc
      by (Some l) e =
          let g = in_map (entry_of r) (key_of r f, l) (facts_of m) (from_entries line_total line_exact (map (entry_of r) (facts_of m)) (key_of r f) l e) in
          let same : f ≡ g.0 = own_line f g.0 is g.1 (ap (λ (x : Line × Bytes). x.0) g.2) in
          e ∙ ap (λ (x : Line × Bytes). Some x.1) g.2 ∙ ap (λ x. Some (line_of r x)) (sym same)
