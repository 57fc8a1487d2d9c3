-- The one row that a place hangs on.
use Rattle.std.proofs.Common.{◌≡◌, inl, inr, ℕ, true, Option, Some, None, refl, sym, ap, ◌∙◌, subst}
use Rattle.std.specs.Option.{option_and_then}
use Rattle.vtep_base.specs.Reading.{Bytes}
use Rattle.vtep_schema.specs.declared.Table.{Table}
use Rattle.vtep_schema.specs.declared.Table.TheVariants.{PhysicalPort, LogicalSwitch, UcastMacsRemote, McastMacsRemote, PhysicalLocatorSet, PhysicalLocator, Acl}
use Rattle.vtep_schema.specs.declared.Column.TheVariants.{LogicalTunnelKey, UcastRemoteLogicalSwitch, UcastRemoteMac, McastRemoteLogicalSwitch, McastRemoteMac, LocatorDstIp}
use Rattle.vtep_rows.specs.Row.{Contents, is_row, number_at}
use Rattle.vtep_rows.specs.Rows.{Rows, row_at}
use Rattle.vtep_rows.specs.Sound.{Sound}
use Rattle.forward_program.specs.declared.spots.Spot.{Spot}
use Rattle.forward_program.specs.declared.spots.Spot.TheVariants as spot
use Rattle.forward_program.specs.declared.spots.Part.TheVariants as part
use Rattle.forward_program.specs.declared.readings.Remote.{Remote}
use Rattle.forward_program.specs.declared.readings.Group.{Group}
use Rattle.forward_program.specs.Readings.{text_in_row, id_at, mac_at, port_name, vlan_bindings, group_in, remote_of, group_of, ip_at, other_address}
use Rattle.forward_program.specs.Built.{IsIn, Binding, binding, bindings_with, bindings_of}
use Rattle.forward_program.specs.Shown.{Entry, binding_entries, vni_entries, remote_entries, group_entries, address_entries, row_entries}
use Rattle.forward_program.proofs.InLists.{in_flat, in_map}
use Rattle.forward_program.proofs.Unique.{one_port, one_network, one_remote, one_group, remote_parts, group_parts}

-- the table whose rows have a place
abbrev pub home : Spot → Table
home (spot.Port p v) = PhysicalPort
home (spot.Switch s part.Itself) = LogicalSwitch
home (spot.Switch s (part.Member p v)) = PhysicalPort
home (spot.Switch s (part.Group g)) = McastMacsRemote
home (spot.Switch s (part.Host m)) = UcastMacsRemote
home (spot.Vni n) = LogicalSwitch
home (spot.Set i) = PhysicalLocatorSet
home (spot.Locator i) = PhysicalLocator
home (spot.Acl i) = Acl

-- what a row of that table has, for the place to be its own
abbrev pub Has : Spot → ℕ × Contents → Type 0
Has (spot.Port p v) e = port_name e.1 ≡ Some p
Has (spot.Switch s part.Itself) e = e.0 ≡ s
Has (spot.Switch s (part.Member p v)) e = port_name e.1 ≡ Some p
Has (spot.Switch s (part.Group g)) e = (id_at e.1 McastRemoteLogicalSwitch ≡ Some s) × (option_and_then group_in (text_in_row e.1 McastRemoteMac) ≡ Some g)
Has (spot.Switch s (part.Host m)) e = (id_at e.1 UcastRemoteLogicalSwitch ≡ Some s) × (mac_at e.1 UcastRemoteMac ≡ Some m)
Has (spot.Vni n) e = number_at e.1 LogicalTunnelKey ≡ Some n
Has (spot.Set i) e = e.0 ≡ i
Has (spot.Locator i) e = e.0 ≡ i
Has (spot.Acl i) e = ⊥

abbrev pub IsHome : Table → ℕ × Contents → Spot → Type 0
IsHome t e k = (t ≡ home k) × Has k e

abbrev HomeOf : Table → ℕ × Contents → Entry → Type 0
HomeOf t e x = IsHome t e x.0

-- ---- the entries of a row

of_binding : (e : ℕ × Contents) (b : Binding) (x : Entry) → port_name e.1 ≡ Some b.port → IsIn x (binding_entries b) → HomeOf PhysicalPort e x
of_binding e b x named (inl is) = subst (HomeOf PhysicalPort e) (sym is) (refl, named)
of_binding e b x named (inr (inl is)) = subst (HomeOf PhysicalPort e) (sym is) (refl, named)
of_binding e b x named (inr (inr h)) = absurd h

named_by : (row : Contents) (b : Binding) (o : Option Bytes) → port_name row ≡ o → IsIn b (bindings_with row o) → port_name row ≡ Some b.port
named_by row b None is h = absurd h
named_by row b (Some p) is h = let y = in_map (binding p row) b (vlan_bindings row) h in is ∙ ap (λ (c : Binding). Some c.port) (sym y.2)

of_port : (own : ℕ) (e : ℕ × Contents) (x : Entry) → IsIn x (row_entries own PhysicalPort e) → HomeOf PhysicalPort e x
of_port own e x h =
    let b = in_flat binding_entries x (bindings_of e.1) h in
    of_binding e b.0 x (named_by e.1 b.0 (port_name e.1) refl b.1) b.2

of_vni : (e : ℕ × Contents) (x : Entry) (o : Option ℕ) → number_at e.1 LogicalTunnelKey ≡ o → IsIn x (vni_entries e.0 o) → HomeOf LogicalSwitch e x
of_vni e x None is h = absurd h
of_vni e x (Some n) is (inl same) = subst (HomeOf LogicalSwitch e) (sym same) (refl, is)
of_vni e x (Some n) is (inr h) = absurd h

of_switch : (own : ℕ) (e : ℕ × Contents) (x : Entry) → IsIn x (row_entries own LogicalSwitch e) → HomeOf LogicalSwitch e x
of_switch own e x (inl is) = subst (HomeOf LogicalSwitch e) (sym is) (refl, refl)
of_switch own e x (inr h) = of_vni e x (number_at e.1 LogicalTunnelKey) refl h

of_remote : (e : ℕ × Contents) (x : Entry) (o : Option Remote) → remote_of e.1 ≡ o → IsIn x (remote_entries o) → HomeOf UcastMacsRemote e x
of_remote e x None is h = absurd h
of_remote e x (Some a) is (inl same) = let p = remote_parts e.1 a is in subst (HomeOf UcastMacsRemote e) (sym same) (refl, (p.0, p.1))
of_remote e x (Some a) is (inr h) = absurd h

of_group : (e : ℕ × Contents) (x : Entry) (o : Option Group) → group_of e.1 ≡ o → IsIn x (group_entries o) → HomeOf McastMacsRemote e x
of_group e x None is h = absurd h
of_group e x (Some g) is (inl same) = let p = group_parts e.1 g is in subst (HomeOf McastMacsRemote e) (sym same) (refl, (p.0, p.1))
of_group e x (Some g) is (inr h) = absurd h

of_set : (own : ℕ) (e : ℕ × Contents) (x : Entry) → IsIn x (row_entries own PhysicalLocatorSet e) → HomeOf PhysicalLocatorSet e x
of_set own e x (inl is) = subst (HomeOf PhysicalLocatorSet e) (sym is) (refl, refl)
of_set own e x (inr h) = absurd h

of_locator : (e : ℕ × Contents) (x : Entry) (o : Option ℕ) → IsIn x (address_entries e.0 o) → HomeOf PhysicalLocator e x
of_locator e x None h = absurd h
of_locator e x (Some ip) (inl is) = subst (HomeOf PhysicalLocator e) (sym is) (refl, refl)
of_locator e x (Some ip) (inr h) = absurd h

-- a row is the home of each place that it has
pub at_home : (own : ℕ) (t : Table) (e : ℕ × Contents) (x : Entry) → IsIn x (row_entries own t e) → IsHome t e x.0
at_home own PhysicalPort e x h = of_port own e x h
at_home own LogicalSwitch e x h = of_switch own e x h
at_home own UcastMacsRemote e x h = of_remote e x (remote_of e.1) refl h
at_home own McastMacsRemote e x h = of_group e x (group_of e.1) refl h
at_home own PhysicalLocatorSet e x h = of_set own e x h
at_home own PhysicalLocator e x h = of_locator e x (other_address own (ip_at e.1 LocatorDstIp)) h
at_home own _ e x h = absurd h

-- in sound rows a place has one home
module _ (r : Rows) (sound : Sound r) where
  pub one_home : (k : Spot) (i j : ℕ) (a b : Contents) → is_row a ≡ true → is_row b ≡ true → row_at r (home k, i) ≡ Some a → row_at r (home k, j) ≡ Some b → Has k (i, a) → Has k (j, b) → i ≡ j
  one_home (spot.Port p v) i j a b ra rb at bt x y = one_port r sound i j a b p ra rb at bt x y
  one_home (spot.Switch s part.Itself) i j a b ra rb at bt x y = x ∙ sym y
  one_home (spot.Switch s (part.Member p v)) i j a b ra rb at bt x y = one_port r sound i j a b p ra rb at bt x y
  one_home (spot.Switch s (part.Group g)) i j a b ra rb at bt x y = one_group r sound i j a b s g ra rb at bt x.0 y.0 x.1 y.1
  one_home (spot.Switch s (part.Host m)) i j a b ra rb at bt x y = one_remote r sound i j a b s m ra rb at bt x.0 y.0 x.1 y.1
  one_home (spot.Vni n) i j a b ra rb at bt x y = one_network r sound i j a b n ra rb at bt x y
  one_home (spot.Set n) i j a b ra rb at bt x y = x ∙ sym y
  one_home (spot.Locator n) i j a b ra rb at bt x y = x ∙ sym y
  one_home (spot.Acl n) i j a b ra rb at bt x y = absurd x
