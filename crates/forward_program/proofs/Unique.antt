-- In sound rows a place is given once.
use Rattle.std.proofs.Common.{◌≡◌, ℕ, pos, Bool, true, false, ◌&&◌, ◌||◌, [], ◌∷◌, Option, Some, None, is_some, codes, refl, sym, ap, ◌∙◌, subst}
use Rattle.std.specs.Prelude.{if◌then◌else◌}
use Rattle.std.proofs.lemmas.Slice.Eq.{slice_eq-Decides}
use Rattle.std.proofs.lemmas.Bool.Decides.{Decides-eqb}
use Rattle.std.specs.Option.{option_and_then, option_map, unwrap_or}
use Rattle.std.specs.Ordering.{nat_cmp}
use Rattle.std.specs.Cmp.{first_so, second_so, nat_cmp_total}
use Rattle.std.specs.List.{list_all, filter_map}
use Rattle.vtep_base.specs.Reading.{Bytes, same_bytes}
use Rattle.vtep_base.specs.Texts.{name_of}
use Rattle.vtep_base.specs.Addresses.{mac_of, mac_text, is_group}
use Rattle.vtep_base.specs.Maps as maps
use Rattle.vtep_base.proofs.NameLaws.{name_read_is_printed}
use Rattle.ovsdb_values.specs.declared.atoms.Atom.TheVariants.{Integer, Text, Id}
use Rattle.vtep_schema.specs.declared.Table.{Table}
use Rattle.vtep_schema.specs.declared.Table.TheVariants.{PhysicalPort, LogicalSwitch, UcastMacsRemote, McastMacsRemote, PhysicalLocatorSet, PhysicalLocator}
use Rattle.vtep_schema.specs.declared.Column.TheVariants.{PortName, LogicalName, LogicalTunnelKey, PortVlanBindings, SetLocators, UcastRemoteLogicalSwitch, UcastRemoteMac, UcastRemoteLocator, McastRemoteLogicalSwitch, McastRemoteMac, McastRemoteLocatorSet, LocatorDstIp}
use Rattle.vtep_schema.specs.declared.rules.Domain.TheVariants as domain
use Rattle.vtep_rows.specs.Row.{Contents, is_row, atoms_at, number_at, ids_at, pairs_at, atom_allowed, text_allowed, is_mac, is_lower, passes}
use Rattle.vtep_rows.specs.Rows.{Rows, IsRows, rows_of, row_at}
use Rattle.vtep_rows.specs.Sound.{Sound, hold_same, agree}
use Rattle.vtep_rows.proofs.Entries.{both, same_some}
use Rattle.vtep_rows.proofs.Kept.{its_contents}
use Rattle.forward_program.specs.declared.spots.Spot.{Spot}
use Rattle.forward_program.specs.declared.spots.Spot.TheVariants as spot
use Rattle.forward_program.specs.declared.spots.Part.{Part}
use Rattle.forward_program.specs.declared.spots.Part.TheVariants as part
use Rattle.forward_program.specs.declared.held.Held.{Held}
use Rattle.forward_program.specs.declared.held.Held.TheVariants as held
use Rattle.forward_program.specs.declared.readings.Remote.{Remote}
use Rattle.forward_program.specs.declared.readings.Group.{Group}
use Rattle.forward_program.specs.Readings.{number_and_id, text_in_row, id_at, mac_at, port_name, vlan_bindings, lists_at, group_in, remote, remote_of, group, group_of, own_ip, ip_at, other_address, mode_of}
use Rattle.forward_program.specs.Built.{IsIn, Binding, binding, bindings_with, bindings_of, bindings}
use Rattle.forward_program.proofs.InLists.{in_flat, in_map}
use Rattle.forward_program.proofs.RowsIn.{in_rows}
use Rattle.forward_program.specs.Spots.{spot_total}
use Rattle.forward_program.specs.Shown.{all_entries, rows_shown}
use Rattle.forward_program.proofs.SpotOrder.{spot_exact}
use Rattle.forward_program.proofs.MapLists.{in_get, in_has, from_entries}
use Rattle.forward_program.proofs.Columns.{text_alone, id_alone, number_alone, hold_one, mac_spelled, atoms_fit}
use Rattle.forward_program.proofs.Given.{Given, GivenPart, listed_given, given_listed}

-- ---- what a reading that is there tells

pub some_of : {A B : Type 0} (f : A → Option B) (o : Option A) (y : B) → option_and_then f o ≡ Some y → (x : A) × (o ≡ Some x) × (f x ≡ Some y)
some_of f None y is = cc
some_of f (Some x) y is = (x, refl, is)

pub map_of : {A B : Type 0} (f : A → B) (o : Option A) (y : B) → option_map f o ≡ Some y → (x : A) × (o ≡ Some x) × (y ≡ f x)
map_of f None y is = cc
map_of f (Some x) y is = (x, refl, ap (λ o. unwrap_or o y) (sym is))

pub bytes_same : (s t : Bytes) → same_bytes s t ≡ true → s ≡ t
bytes_same s t e = (slice_eq-Decides Decides-eqb s t (same_bytes s t) refl).0 e

pub bytes_itself : (s : Bytes) → same_bytes s s ≡ true
bytes_itself s = (slice_eq-Decides Decides-eqb s s (same_bytes s s) refl).1 refl

-- ---- two rows of one key

second_key : (p q : Bool) → q ≡ true → (p || (q || false)) ≡ true
second_key true q e = refl
second_key false q e = ap (λ b. b || false) e

only_key : (q : Bool) → q ≡ true → (q || false) ≡ true
only_key q e = ap (λ b. b || false) e

-- ports by their names
pub port_text : (row : Contents) (p : Bytes) → port_name row ≡ Some p → text_in_row row PortName ≡ Some p
port_text row p is =
    let x = some_of name_of (text_in_row row PortName) p is in
    x.1 ∙ ap Some (sym (name_read_is_printed x.0 p x.2))

-- remote rows by switch and address
pub remote_parts : (row : Contents) (x : Remote) → remote_of row ≡ Some x → (id_at row UcastRemoteLogicalSwitch ≡ Some x.switch) × (mac_at row UcastRemoteMac ≡ Some x.mac) × (id_at row UcastRemoteLocator ≡ Some x.locator)
remote_parts row x is =
    let s = some_of (λ switch. option_and_then (λ mac. option_map (remote switch mac) (id_at row UcastRemoteLocator)) (mac_at row UcastRemoteMac)) (id_at row UcastRemoteLogicalSwitch) x is in
    let m = some_of (λ mac. option_map (remote s.0 mac) (id_at row UcastRemoteLocator)) (mac_at row UcastRemoteMac) x s.2 in
    let l = map_of (remote s.0 m.0) (id_at row UcastRemoteLocator) x m.2 in
    (s.1 ∙ ap (λ (y : Remote). Some y.switch) (sym l.2), m.1 ∙ ap (λ (y : Remote). Some y.mac) (sym l.2), l.1 ∙ ap (λ (y : Remote). Some y.locator) (sym l.2))

single_text : (row : Contents) (m : ℕ) → is_row row ≡ true → mac_at row UcastRemoteMac ≡ Some m → atoms_at row UcastRemoteMac ≡ Text (mac_text m) ∷ []
single_text row m is e =
    let x = some_of mac_of (text_in_row row UcastRemoteMac) m e in
    let alone : atoms_at row UcastRemoteMac ≡ Text x.0 ∷ [] = text_alone row UcastRemoteMac is refl x.0 x.1 in
    let fits : (text_allowed domain.SingleMac x.0 && true) ≡ true = ap (list_all (atom_allowed domain.SingleMac)) (sym alone) ∙ (atoms_fit row UcastRemoteMac is).each in
    let low : is_lower x.0 ≡ true = second_so (passes _ (mac_of x.0)) (is_lower x.0) (first_so (text_allowed domain.SingleMac x.0) true fits) in
    alone ∙ ap (λ t. Text t ∷ []) (mac_spelled x.0 m x.2 low)

-- remote rows by switch and group
pub group_parts : (row : Contents) (x : Group) → group_of row ≡ Some x → (id_at row McastRemoteLogicalSwitch ≡ Some x.switch) × (option_and_then group_in (text_in_row row McastRemoteMac) ≡ Some x.group) × (id_at row McastRemoteLocatorSet ≡ Some x.set)
group_parts row x is =
    let s = some_of (λ switch. option_and_then (λ mac. option_map (group switch mac) (id_at row McastRemoteLocatorSet)) (option_and_then group_in (text_in_row row McastRemoteMac))) (id_at row McastRemoteLogicalSwitch) x is in
    let m = some_of (λ mac. option_map (group s.0 mac) (id_at row McastRemoteLocatorSet)) (option_and_then group_in (text_in_row row McastRemoteMac)) x s.2 in
    let l = map_of (group s.0 m.0) (id_at row McastRemoteLocatorSet) x m.2 in
    (s.1 ∙ ap (λ (y : Group). Some y.switch) (sym l.2), m.1 ∙ ap (λ (y : Group). Some y.group) (sym l.2), l.1 ∙ ap (λ (y : Group). Some y.set) (sym l.2))

abbrev spelled : Option ℕ → Bytes
spelled None = codes "unknown-dst"
spelled (Some m) = mac_text m

group_spelled : (t : Bytes) (g : Option ℕ) → text_allowed domain.GroupMac t ≡ true → group_in t ≡ Some g → t ≡ spelled g
group_spelled t g fits is = by (same_bytes t (codes "unknown-dst")) refl fits is
  where
    by : (b : Bool) → same_bytes t (codes "unknown-dst") ≡ b → (b || is_mac is_group t) ≡ true → (if b then Some None else option_map Some (mac_of t)) ≡ Some g → t ≡ spelled g
    by true e fit known = bytes_same t (codes "unknown-dst") e ∙ ap spelled (same_some None g known)
    by false e fit known =
        let m = map_of Some (mac_of t) g known in
        mac_spelled t m.0 m.1 (second_so (passes is_group (mac_of t)) (is_lower t) fit) ∙ ap spelled (sym m.2)

group_text : (row : Contents) (g : Option ℕ) → is_row row ≡ true → option_and_then group_in (text_in_row row McastRemoteMac) ≡ Some g → atoms_at row McastRemoteMac ≡ Text (spelled g) ∷ []
group_text row g is e =
    let x = some_of group_in (text_in_row row McastRemoteMac) g e in
    let alone : atoms_at row McastRemoteMac ≡ Text x.0 ∷ [] = text_alone row McastRemoteMac is refl x.0 x.1 in
    let fits : (text_allowed domain.GroupMac x.0 && true) ≡ true = ap (list_all (atom_allowed domain.GroupMac)) (sym alone) ∙ (atoms_fit row McastRemoteMac is).each in
    alone ∙ ap (λ t. Text t ∷ []) (group_spelled x.0 g (first_so (text_allowed domain.GroupMac x.0) true fits) x.2)

module _ (r : Rows) (sound : Sound r) where
  -- ports of one name
  pub one_port : (i j : ℕ) (a b : Contents) (p : Bytes) → is_row a ≡ true → is_row b ≡ true → row_at r (PhysicalPort, i) ≡ Some a → row_at r (PhysicalPort, j) ≡ Some b → port_name a ≡ Some p → port_name b ≡ Some p → i ≡ j
  one_port i j a b p ra rb at bt is js =
      sound.unique PhysicalPort i j a b at bt
      (only_key (agree (PortName ∷ []) a b)
      (both (hold_same (atoms_at a PortName) (atoms_at b PortName)) true
      (hold_one (Text p) (atoms_at a PortName) (atoms_at b PortName)
      (text_alone a PortName ra refl p (port_text a p is))
      (text_alone b PortName rb refl p (port_text b p js))) refl))

  -- switches of one network
  pub one_network : (i j : ℕ) (a b : Contents) (n : ℕ) → is_row a ≡ true → is_row b ≡ true → row_at r (LogicalSwitch, i) ≡ Some a → row_at r (LogicalSwitch, j) ≡ Some b → number_at a LogicalTunnelKey ≡ Some n → number_at b LogicalTunnelKey ≡ Some n → i ≡ j
  one_network i j a b n ra rb at bt is js =
      sound.unique LogicalSwitch i j a b at bt
      (second_key (agree (LogicalName ∷ []) a b) (agree (LogicalTunnelKey ∷ []) a b)
      (both (hold_same (atoms_at a LogicalTunnelKey) (atoms_at b LogicalTunnelKey)) true
      (hold_one (Integer (pos n)) (atoms_at a LogicalTunnelKey) (atoms_at b LogicalTunnelKey)
      (number_alone a LogicalTunnelKey ra refl n is)
      (number_alone b LogicalTunnelKey rb refl n js)) refl))

  -- remote rows of one switch and address
  pub one_remote : (i j : ℕ) (a b : Contents) (s m : ℕ) → is_row a ≡ true → is_row b ≡ true → row_at r (UcastMacsRemote, i) ≡ Some a → row_at r (UcastMacsRemote, j) ≡ Some b
      → id_at a UcastRemoteLogicalSwitch ≡ Some s → id_at b UcastRemoteLogicalSwitch ≡ Some s → mac_at a UcastRemoteMac ≡ Some m → mac_at b UcastRemoteMac ≡ Some m → i ≡ j
  one_remote i j a b s m ra rb at bt sa sb am bm =
      sound.unique UcastMacsRemote i j a b at bt
      (only_key (agree (UcastRemoteLogicalSwitch ∷ UcastRemoteMac ∷ []) a b)
      (both (hold_same (atoms_at a UcastRemoteLogicalSwitch) (atoms_at b UcastRemoteLogicalSwitch)) (hold_same (atoms_at a UcastRemoteMac) (atoms_at b UcastRemoteMac) && true)
      (hold_one (Id s) (atoms_at a UcastRemoteLogicalSwitch) (atoms_at b UcastRemoteLogicalSwitch)
      (id_alone a UcastRemoteLogicalSwitch ra refl s sa) (id_alone b UcastRemoteLogicalSwitch rb refl s sb))
      (both (hold_same (atoms_at a UcastRemoteMac) (atoms_at b UcastRemoteMac)) true
      (hold_one (Text (mac_text m)) (atoms_at a UcastRemoteMac) (atoms_at b UcastRemoteMac)
      (single_text a m ra am) (single_text b m rb bm)) refl)))

  -- remote rows of one switch and group
  pub one_group : (i j : ℕ) (a b : Contents) (s : ℕ) (g : Option ℕ) → is_row a ≡ true → is_row b ≡ true → row_at r (McastMacsRemote, i) ≡ Some a → row_at r (McastMacsRemote, j) ≡ Some b
      → id_at a McastRemoteLogicalSwitch ≡ Some s → id_at b McastRemoteLogicalSwitch ≡ Some s
      → option_and_then group_in (text_in_row a McastRemoteMac) ≡ Some g → option_and_then group_in (text_in_row b McastRemoteMac) ≡ Some g → i ≡ j
  one_group i j a b s g ra rb at bt sa sb ag bg =
      sound.unique McastMacsRemote i j a b at bt
      (only_key (agree (McastRemoteLogicalSwitch ∷ McastRemoteMac ∷ []) a b)
      (both (hold_same (atoms_at a McastRemoteLogicalSwitch) (atoms_at b McastRemoteLogicalSwitch)) (hold_same (atoms_at a McastRemoteMac) (atoms_at b McastRemoteMac) && true)
      (hold_one (Id s) (atoms_at a McastRemoteLogicalSwitch) (atoms_at b McastRemoteLogicalSwitch)
      (id_alone a McastRemoteLogicalSwitch ra refl s sa) (id_alone b McastRemoteLogicalSwitch rb refl s sb))
      (both (hold_same (atoms_at a McastRemoteMac) (atoms_at b McastRemoteMac)) true
      (hold_one (Text (spelled g)) (atoms_at a McastRemoteMac) (atoms_at b McastRemoteMac)
      (group_text a g ra ag) (group_text b g rb bg)) refl)))

module _ (r : Rows) (rows : IsRows r) (sound : Sound r) where
  module _ (t : Table) (i j : ℕ) (a b : Contents) (at : row_at r (t, i) ≡ Some a) (bt : row_at r (t, j) ≡ Some b) where
    same_row : i ≡ j → a ≡ b
    same_row e = same_some a b (sym at ∙ ap (λ n. row_at r (t, n)) e ∙ bt)

  row_is : (t : Table) (i : ℕ) (a : Contents) → row_at r (t, i) ≡ Some a → is_row a ≡ true
  row_is t i a at = its_contents r t i a rows at

  -- ---- bindings

  -- a binding and its port's row
  pub record BindingOf (b : Binding) : Type 0 where
    pub id : ℕ
    pub row : Contents
    pub at : row_at r (PhysicalPort, id) ≡ Some row
    pub named : port_name row ≡ Some b.port
    pub bound : IsIn (b.vlan, b.switch) (vlan_bindings row)
    pub guarded : b.lists ≡ lists_at row b.vlan

  binding_with : (id : ℕ) (row : Contents) (b : Binding) → row_at r (PhysicalPort, id) ≡ Some row → (o : Option Bytes) → port_name row ≡ o → IsIn b (bindings_with row o) → BindingOf b
  binding_with id row b at None named h = absurd h
  binding_with id row b at (Some p) named h =
      let y = in_map (binding p row) b (vlan_bindings row) h in
      record {
        id = id;
        row = row;
        at = at;
        named = named ∙ ap (λ (c : Binding). Some c.port) (sym y.2);
        bound = subst (λ (c : Binding). IsIn (c.vlan, c.switch) (vlan_bindings row)) (sym y.2) y.1;
        guarded = ap (λ (c : Binding). c.lists) y.2 ∙ ap (λ (c : Binding). lists_at row c.vlan) (sym y.2);
      }

  pub binding_of : (b : Binding) → IsIn b (bindings r) → BindingOf b
  binding_of b h =
      let x = in_flat (λ (e : ℕ × Contents). bindings_of e.1) b (rows_of PhysicalPort r) h in
      binding_with x.0.0 x.0.1 b (in_rows r PhysicalPort x.0 x.1) (port_name x.0.1) refl x.2

  -- one VLAN of one port is bound once
  pub one_binding : (b c : Binding) → BindingOf b → BindingOf c → b.port ≡ c.port → b.vlan ≡ c.vlan → (b.switch ≡ c.switch) × (b.lists ≡ c.lists)
  one_binding b c x y port vlan =
      let same : x.row ≡ y.row = same_row PhysicalPort x.id y.id x.row y.row x.at y.at (one_port r sound x.id y.id x.row y.row b.port (row_is PhysicalPort x.id x.row x.at) (row_is PhysicalPort y.id y.row y.at) x.at y.at x.named (y.named ∙ ap Some (sym port))) in
      let bound : IsIn (b.vlan, c.switch) (vlan_bindings x.row) = subst (λ (w : ℕ × Contents). IsIn (w.0, c.switch) (vlan_bindings w.1)) (λ i. (sym vlan i, sym same i)) y.bound in
      let pairs = maps.map_by nat_cmp (filter_map number_and_id (pairs_at x.row PortVlanBindings)) in (
        same_some b.switch c.switch (sym (in_get nat_cmp_total pairs b.vlan b.switch x.bound) ∙ in_get nat_cmp_total pairs b.vlan c.switch bound),
        x.guarded ∙ (λ i. lists_at (same i) (vlan i)) ∙ sym y.guarded,
      )

  -- ---- a place is given once

  part_once : (s : ℕ) (p : Part) (h k : Held) → GivenPart r s p h → GivenPart r s p k → h ≡ k
  part_once s part.Itself h k (a, at, is) (b, bt, js) =
      is ∙ ap (λ row. held.Switch (number_at row LogicalTunnelKey) (mode_of row)) (same_row LogicalSwitch s s a b at bt refl) ∙ sym js
  part_once s (part.Member p v) h k (b, bh, bs, bp, bv, is) (c, ch, cs, cp, cv, js) =
      is ∙ ap held.Lists (one_binding b c (binding_of b bh) (binding_of c ch) (bp ∙ sym cp) (bv ∙ sym cv)).1 ∙ sym js
  part_once s (part.Group g) h k (i, a, at, x, xa, xs, xg, is) (j, b, bt, y, yb, ys, yg, js) =
      let xp = group_parts a x xa in let yp = group_parts b y yb in
      let same : a ≡ b = same_row McastMacsRemote i j a b at bt (one_group r sound i j a b s g (row_is McastMacsRemote i a at) (row_is McastMacsRemote j b bt) at bt (xp.0 ∙ ap Some xs) (yp.0 ∙ ap Some ys) (xp.1 ∙ ap Some xg) (yp.1 ∙ ap Some yg)) in
      let one : x ≡ y = same_some x y (sym xa ∙ ap group_of same ∙ yb) in
      is ∙ ap (λ (z : Group). held.Set z.set) one ∙ sym js
  part_once s (part.Host m) h k (i, a, at, x, xa, xs, xm, is) (j, b, bt, y, yb, ys, ym, js) =
      let xp = remote_parts a x xa in let yp = remote_parts b y yb in
      let same : a ≡ b = same_row UcastMacsRemote i j a b at bt (one_remote r sound i j a b s m (row_is UcastMacsRemote i a at) (row_is UcastMacsRemote j b bt) at bt (xp.0 ∙ ap Some xs) (yp.0 ∙ ap Some ys) (xp.1 ∙ ap Some xm) (yp.1 ∙ ap Some ym)) in
      let one : x ≡ y = same_some x y (sym xa ∙ ap remote_of same ∙ yb) in
      is ∙ ap (λ (z : Remote). held.Host None (Some z.locator)) one ∙ sym js

  given_once : (k : Spot) (h l : Held) → Given r k h → Given r k l → h ≡ l
  given_once (spot.Port p v) h l (b, bh, bp, bv, is) (c, ch, cp, cv, js) =
      let one = one_binding b c (binding_of b bh) (binding_of c ch) (bp ∙ sym cp) (bv ∙ sym cv) in
      is ∙ (λ i. held.Bound (one.0 i) (one.1 i)) ∙ sym js
  given_once (spot.Switch s p) h l x y = part_once s p h l x y
  given_once (spot.Vni n) h l (i, a, at, xa, is) (j, b, bt, yb, js) = is ∙ ap held.Of (one_network r sound i j a b n (row_is LogicalSwitch i a at) (row_is LogicalSwitch j b bt) at bt xa yb) ∙ sym js
  given_once (spot.Set i) h l (a, at, is) (b, bt, js) = is ∙ ap (λ row. held.Members (ids_at row SetLocators)) (same_row PhysicalLocatorSet i i a b at bt refl) ∙ sym js
  given_once (spot.Locator i) h l (a, at, x, xa, is) (b, bt, y, yb, js) =
      let same : a ≡ b = same_row PhysicalLocator i i a b at bt refl in
      is ∙ ap held.Address (same_some x y (sym xa ∙ ap (λ row. other_address (own_ip r) (ip_at row LocatorDstIp)) same ∙ yb)) ∙ sym js
  given_once (spot.Acl i) h l x y = absurd x

  -- what is given stands at its place
  pub given_at : (k : Spot) (h : Held) → Given r k h → maps.get (rows_shown r) k ≡ Some h
  given_at k h x = by (maps.get (rows_shown r) k) refl
    where
      by : (o : Option Held) → maps.get (rows_shown r) k ≡ o → maps.get (rows_shown r) k ≡ Some h
      by None e =
          let there : maps.has (rows_shown r) k ≡ true = in_has spot_total (all_entries r) maps.empty k h (given_listed r k h x) in
          let clash : false ≡ true = ap is_some (sym e) ∙ there in
          cc
      by (Some l) e = e ∙ ap Some (given_once k l h (listed_given r k l (from_entries spot_total spot_exact (all_entries r) k l e)) x)

  -- what stands at a place is given
  pub at_given : (k : Spot) (h : Held) → maps.get (rows_shown r) k ≡ Some h → Given r k h
  at_given k h is = listed_given r k h (from_entries spot_total spot_exact (all_entries r) k h is)
