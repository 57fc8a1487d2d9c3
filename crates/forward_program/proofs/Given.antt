-- What gives the entry at a place: a row, or a binding.
use Rattle.std.proofs.Common.{◌≡◌, inl, inr, ℕ, Option, Some, None, refl, sym, subst}
use Rattle.vtep_schema.specs.declared.Table.{Table}
use Rattle.vtep_schema.specs.declared.Table.TheVariants.{PhysicalPort, LogicalSwitch, UcastMacsRemote, McastMacsRemote, PhysicalLocatorSet, PhysicalLocator}
use Rattle.vtep_schema.specs.declared.Column.TheVariants.{LogicalTunnelKey, SetLocators, LocatorDstIp}
use Rattle.vtep_rows.specs.Row.{Contents, number_at, ids_at}
use Rattle.vtep_rows.specs.Rows.{Rows, rows_of, row_at}
use Rattle.forward_program.specs.declared.spots.Spot.{Spot}
use Rattle.forward_program.specs.declared.spots.Spot.TheVariants as spot
use Rattle.forward_program.specs.declared.spots.Part.{Part}
use Rattle.forward_program.specs.declared.spots.Part.TheVariants as part
use Rattle.forward_program.specs.declared.held.Held.{Held}
use Rattle.forward_program.specs.declared.held.Held.TheVariants as held
use Rattle.forward_program.specs.declared.readings.Remote.{Remote}
use Rattle.forward_program.specs.declared.readings.Group.{Group}
use Rattle.forward_program.specs.Readings.{mode_of, remote_of, group_of, ip_at, other_address, own_ip}
use Rattle.forward_program.specs.Built.{IsIn, Binding, bindings_of, bindings}
use Rattle.forward_program.specs.Shown.{Entry, binding_entries, vni_entries, remote_entries, group_entries, address_entries, row_entries, table_entries, forward_tables, all_entries}
use Rattle.forward_program.proofs.InLists.{in_flat, flat_in}
use Rattle.forward_program.proofs.RowsIn.{in_rows, rows_in}

abbrev pub GivenPart : Rows → ℕ → Part → Held → Type 0
GivenPart r s part.Itself h = (row : Contents) × (row_at r (LogicalSwitch, s) ≡ Some row) × (h ≡ held.Switch (number_at row LogicalTunnelKey) (mode_of row))
GivenPart r s (part.Member p v) h = (b : Binding) × IsIn b (bindings r) × (b.switch ≡ s) × (b.port ≡ p) × (b.vlan ≡ v) × (h ≡ held.Lists b.lists)
GivenPart r s (part.Group g) h = (id : ℕ) × (row : Contents) × (row_at r (McastMacsRemote, id) ≡ Some row) × (x : Group) × (group_of row ≡ Some x) × (x.switch ≡ s) × (x.group ≡ g) × (h ≡ held.Set x.set)
GivenPart r s (part.Host m) h = (id : ℕ) × (row : Contents) × (row_at r (UcastMacsRemote, id) ≡ Some row) × (x : Remote) × (remote_of row ≡ Some x) × (x.switch ≡ s) × (x.mac ≡ m) × (h ≡ held.Host None (Some x.locator))

abbrev pub Given : Rows → Spot → Held → Type 0
Given r (spot.Port p v) h = (b : Binding) × IsIn b (bindings r) × (b.port ≡ p) × (b.vlan ≡ v) × (h ≡ held.Bound b.switch b.lists)
Given r (spot.Switch s p) h = GivenPart r s p h
Given r (spot.Vni n) h = (id : ℕ) × (row : Contents) × (row_at r (LogicalSwitch, id) ≡ Some row) × (number_at row LogicalTunnelKey ≡ Some n) × (h ≡ held.Of id)
Given r (spot.Set i) h = (row : Contents) × (row_at r (PhysicalLocatorSet, i) ≡ Some row) × (h ≡ held.Members (ids_at row SetLocators))
Given r (spot.Locator i) h = (row : Contents) × (row_at r (PhysicalLocator, i) ≡ Some row) × (ip : ℕ) × (other_address (own_ip r) (ip_at row LocatorDstIp) ≡ Some ip) × (h ≡ held.Address ip)
Given r (spot.Acl i) h = ⊥

module _ (r : Rows) where
  abbrev GivenBy : Entry → Type 0
  GivenBy e = Given r e.0 e.1

  -- ---- what is listed is given

  of_binding : (e : Entry) (b : Binding) → IsIn b (bindings r) → IsIn e (binding_entries b) → GivenBy e
  of_binding e b there (inl is) = subst GivenBy (sym is) (b, there, refl, refl, refl)
  of_binding e b there (inr (inl is)) = subst GivenBy (sym is) (b, there, refl, refl, refl, refl)
  of_binding e b there (inr (inr h)) = absurd h

  of_port : (e : Entry) (x : ℕ × Contents) → row_at r (PhysicalPort, x.0) ≡ Some x.1 → IsIn e (row_entries (own_ip r) PhysicalPort x) → GivenBy e
  of_port e x at h =
      let p = in_flat binding_entries e (bindings_of x.1) h in
      of_binding e p.0 (flat_in (λ (y : ℕ × Contents). bindings_of y.1) p.0 x (rows_of PhysicalPort r) (rows_in r PhysicalPort x.0 x.1 at) p.1) p.2

  of_vni : (e : Entry) (id : ℕ) (row : Contents) → row_at r (LogicalSwitch, id) ≡ Some row → (o : Option ℕ) → number_at row LogicalTunnelKey ≡ o → IsIn e (vni_entries id o) → GivenBy e
  of_vni e id row at None is h = absurd h
  of_vni e id row at (Some n) is (inl same) = subst GivenBy (sym same) (id, row, at, is, refl)
  of_vni e id row at (Some n) is (inr h) = absurd h

  of_switch : (e : Entry) (x : ℕ × Contents) → row_at r (LogicalSwitch, x.0) ≡ Some x.1 → IsIn e (row_entries (own_ip r) LogicalSwitch x) → GivenBy e
  of_switch e x at (inl is) = subst GivenBy (sym is) (x.1, at, refl)
  of_switch e x at (inr h) = of_vni e x.0 x.1 at (number_at x.1 LogicalTunnelKey) refl h

  of_remote : (e : Entry) (id : ℕ) (row : Contents) → row_at r (UcastMacsRemote, id) ≡ Some row → (o : Option Remote) → remote_of row ≡ o → IsIn e (remote_entries o) → GivenBy e
  of_remote e id row at None is h = absurd h
  of_remote e id row at (Some x) is (inl same) = subst GivenBy (sym same) (id, row, at, x, is, refl, refl, refl)
  of_remote e id row at (Some x) is (inr h) = absurd h

  of_group : (e : Entry) (id : ℕ) (row : Contents) → row_at r (McastMacsRemote, id) ≡ Some row → (o : Option Group) → group_of row ≡ o → IsIn e (group_entries o) → GivenBy e
  of_group e id row at None is h = absurd h
  of_group e id row at (Some x) is (inl same) = subst GivenBy (sym same) (id, row, at, x, is, refl, refl, refl)
  of_group e id row at (Some x) is (inr h) = absurd h

  of_set : (e : Entry) (x : ℕ × Contents) → row_at r (PhysicalLocatorSet, x.0) ≡ Some x.1 → IsIn e (row_entries (own_ip r) PhysicalLocatorSet x) → GivenBy e
  of_set e x at (inl is) = subst GivenBy (sym is) (x.1, at, refl)
  of_set e x at (inr h) = absurd h

  of_locator : (e : Entry) (id : ℕ) (row : Contents) → row_at r (PhysicalLocator, id) ≡ Some row → (o : Option ℕ) → other_address (own_ip r) (ip_at row LocatorDstIp) ≡ o → IsIn e (address_entries id o) → GivenBy e
  of_locator e id row at None is h = absurd h
  of_locator e id row at (Some ip) is (inl same) = subst GivenBy (sym same) (row, at, ip, is, refl)
  of_locator e id row at (Some ip) is (inr h) = absurd h

  of_row : (e : Entry) (t : Table) (x : ℕ × Contents) → row_at r (t, x.0) ≡ Some x.1 → IsIn e (row_entries (own_ip r) t x) → GivenBy e
  of_row e PhysicalPort x at h = of_port e x at h
  of_row e LogicalSwitch x at h = of_switch e x at h
  of_row e UcastMacsRemote x at h = of_remote e x.0 x.1 at (remote_of x.1) refl h
  of_row e McastMacsRemote x at h = of_group e x.0 x.1 at (group_of x.1) refl h
  of_row e PhysicalLocatorSet x at h = of_set e x at h
  of_row e PhysicalLocator x at h = of_locator e x.0 x.1 at (other_address (own_ip r) (ip_at x.1 LocatorDstIp)) refl h
  of_row e _ x at h = absurd h

  pub listed_given : (k : Spot) (h : Held) → IsIn (k, h) (all_entries r) → Given r k h
  listed_given k h is =
      let t = in_flat (table_entries r) (k, h) forward_tables is in
      let x = in_flat (row_entries (own_ip r) t.0) (k, h) (rows_of t.0 r) t.2 in
      of_row (k, h) t.0 x.0 (in_rows r t.0 x.0 x.1) x.2

  -- ---- what is given is listed

  pub by_row : (e : Entry) (t : Table) (id : ℕ) (row : Contents) → IsIn t forward_tables → row_at r (t, id) ≡ Some row → IsIn e (row_entries (own_ip r) t (id, row)) → IsIn e (all_entries r)
  by_row e t id row is at h = flat_in (table_entries r) e t forward_tables is (flat_in (row_entries (own_ip r) t) e (id, row) (rows_of t r) (rows_in r t id row at) h)

  by_binding : (e : Entry) (b : Binding) → IsIn b (bindings r) → IsIn e (binding_entries b) → IsIn e (all_entries r)
  by_binding e b there h =
      let x = in_flat (λ (y : ℕ × Contents). bindings_of y.1) b (rows_of PhysicalPort r) there in
      by_row e PhysicalPort x.0.0 x.0.1 (inl refl) (in_rows r PhysicalPort x.0 x.1) (flat_in binding_entries e b (bindings_of x.0.1) x.2 h)

  part_listed : (s : ℕ) (p : Part) (h : Held) → GivenPart r s p h → IsIn (spot.Switch s p, h) (all_entries r)
  part_listed s part.Itself h (row, at, is) = by_row _ LogicalSwitch s row (inr (inl refl)) at (inl (λ i. (spot.Switch s part.Itself, is i)))
  part_listed s (part.Member p v) h (b, there, is_switch, is_port, is_vlan, is) =
      by_binding _ b there (inr (inl (λ i. (spot.Switch (sym is_switch i) (part.Member (sym is_port i) (sym is_vlan i)), is i))))
  part_listed s (part.Group g) h (id, row, at, x, known, is_switch, is_group, is) =
      by_row _ McastMacsRemote id row (inr (inr (inr (inl refl)))) at
      (subst (λ o. IsIn (spot.Switch s (part.Group g), h) (group_entries o)) (sym known) (inl (λ i. (spot.Switch (sym is_switch i) (part.Group (sym is_group i)), is i))))
  part_listed s (part.Host m) h (id, row, at, x, known, is_switch, is_mac, is) =
      by_row _ UcastMacsRemote id row (inr (inr (inl refl))) at
      (subst (λ o. IsIn (spot.Switch s (part.Host m), h) (remote_entries o)) (sym known) (inl (λ i. (spot.Switch (sym is_switch i) (part.Host (sym is_mac i)), is i))))

  pub given_listed : (k : Spot) (h : Held) → Given r k h → IsIn (k, h) (all_entries r)
  given_listed (spot.Port p v) h (b, there, is_port, is_vlan, is) = by_binding _ b there (inl (λ i. (spot.Port (sym is_port i) (sym is_vlan i), is i)))
  given_listed (spot.Switch s p) h g = part_listed s p h g
  given_listed (spot.Vni n) h (id, row, at, known, is) =
      by_row _ LogicalSwitch id row (inr (inl refl)) at (inr (subst (λ o. IsIn (spot.Vni n, h) (vni_entries id o)) (sym known) (inl (λ i. (spot.Vni n, is i)))))
  given_listed (spot.Set j) h (row, at, is) = by_row _ PhysicalLocatorSet j row (inr (inr (inr (inr (inl refl))))) at (inl (λ i. (spot.Set j, is i)))
  given_listed (spot.Locator j) h (row, at, ip, known, is) =
      by_row _ PhysicalLocator j row (inr (inr (inr (inr (inr (inl refl)))))) at (subst (λ o. IsIn (spot.Locator j, h) (address_entries j o)) (sym known) (inl (λ i. (spot.Locator j, is i))))
  given_listed (spot.Acl i) h g = absurd g
