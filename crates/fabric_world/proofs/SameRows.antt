-- Rows that differ in no table that forwarding reads make the same facts.
use Rattle.std.proofs.Common.{◌≡◌, ℕ, true, false, not, cond, ◌&&◌, List, [], ◌∷◌, ◌++◌, map, is_some, Option, Some, None, refl, ap, ◌∙◌}
use Rattle.std.specs.Prelude.{◌==◌}
use Rattle.std.specs.List.{filter_map, flat_map, list_any, cons_option}
use Rattle.std.specs.Option.{option_and_then, option_map, unwrap_or}
use Rattle.std.specs.Cmp.{eq_by_cmp_equiv}
use Rattle.std.specs.Cmp.Lexicographic.{pointwise}
use Rattle.vtep_base.specs.declared.Mode.TheVariants.{Service}
use Rattle.ovsdb_values.specs.declared.datums.Datum.{Datum}
use Rattle.ovsdb_values.specs.Sets.{same_datum}
use Rattle.ovsdb_values.specs.Exact.{same_datum_exact}
use Rattle.vtep_schema.specs.declared.Table.TheVariants.{PhysicalSwitch, PhysicalPort, LogicalSwitch, UcastMacsRemote, McastMacsRemote, PhysicalLocatorSet, PhysicalLocator, Acl, AclEntry}
use Rattle.vtep_schema.specs.declared.Column.{Column}
use Rattle.vtep_schema.specs.declared.Column.TheVariants.{SwitchTunnelIps, LogicalTunnelKey, SetLocators, LocatorDstIp, AclEntries}
use Rattle.vtep_schema.specs.Orders.{column_total}
use Rattle.vtep_schema.specs.Tables.{same_column, same_table}
use Rattle.vtep_rows.specs.declared.differences.RowChange.{RowChange}
use Rattle.vtep_rows.specs.Row.{Contents, ids_at, number_at, first, same_fields}
use Rattle.vtep_rows.specs.Rows.{Key, Rows, row_at}
use Rattle.vtep_rows.specs.Changes.{differ, change_at, keys_of_both, changes}
use Rattle.vtep_rows.proofs.Entries.{both}
use Rattle.vtep_rows.proofs.Kept.{same_table_itself}
use Rattle.locator_sets.specs.Locators.{other_addresses}
use Rattle.replication.specs.Targets.{targets}
use Rattle.mac_learning.specs.declared.Learnt.{Learnt}
use Rattle.mac_learning.specs.Learning.{found}
use Rattle.forward_program.specs.declared.readings.Remote.{Remote}
use Rattle.forward_program.specs.declared.readings.Group.{Group}
use Rattle.forward_program.specs.declared.facts.Fact.TheVariants as fact
use Rattle.forward_program.specs.declared.facts.Place.TheVariants.{There}
use Rattle.forward_program.specs.Readings.{ip_at, own_ip, mode_of, remote_of, group_of, locator_address, other_address, set_locators}
use Rattle.acl_rules.specs.Permits.{in_order}
use Rattle.forward_program.specs.Acls.{entry_of, entry_at, entries_at}
use Rattle.forward_program.specs.Built.{Binding, bindings_of, bindings, is_bound, if_bound, names_acl, is_listed, acl_fact, bind_fact, vni_fact, remote_fact, unlearnt_fact, learnt_fact, mode_at, set_addresses, flood_to, flood_fact, built}
use Rattle.local_tables.proofs.Same.{SameTable, same_rows}

pub record IsSame (a b : Rows) : Type 0 where
  pub gateways : SameTable PhysicalSwitch a b
  pub ports : SameTable PhysicalPort a b
  pub switches : SameTable LogicalSwitch a b
  pub remotes : SameTable UcastMacsRemote a b
  pub floods : SameTable McastMacsRemote a b
  pub sets : SameTable PhysicalLocatorSet a b
  pub locators : SameTable PhysicalLocator a b
  pub acls : SameTable Acl a b
  pub entries : SameTable AclEntry a b

pub all_same : (r : Rows) → IsSame r r
all_same r = record { gateways = λ i. refl; ports = λ i. refl; switches = λ i. refl; remotes = λ i. refl; floods = λ i. refl; sets = λ i. refl; locators = λ i. refl; acls = λ i. refl; entries = λ i. refl }

module _ (a b : Rows) (same : IsSame a b) where
  own_same : own_ip a ≡ own_ip b
  own_same = ap (λ rows. unwrap_or (first (filter_map (λ (e : ℕ × Contents). ip_at e.1 SwitchTunnelIps) rows)) 0) (same_rows PhysicalSwitch a b same.gateways)

  pub bindings_same : bindings a ≡ bindings b
  bindings_same = ap (flat_map (λ (e : ℕ × Contents). bindings_of e.1)) (same_rows PhysicalPort a b same.ports)

  bound_same : (s : ℕ) → is_bound a s ≡ is_bound b s
  bound_same s = ap (list_any (λ (c : Binding). c.switch == s)) bindings_same

  locator_same : (id : ℕ) → locator_address a id ≡ locator_address b id
  locator_same id = ap (option_and_then (λ row. ip_at row LocatorDstIp)) (same.locators id)

  set_same : (id : ℕ) → set_locators a id ≡ set_locators b id
  set_same id = ap (λ o. unwrap_or (option_map (λ row. ids_at row SetLocators) o) []) (same.sets id)

  mode_same : (s : ℕ) → mode_at a s ≡ mode_at b s
  mode_same s = ap (λ o. unwrap_or (option_map mode_of o) Service) (same.switches s)

  addresses_same : (set : ℕ) → set_addresses a set ≡ set_addresses b set
  addresses_same set = λ i. other_addresses (λ id. locator_same id i) (own_same i) (set_same set i)

  vni_same : (e : ℕ × Contents) → vni_fact a e ≡ vni_fact b e
  vni_same e = ap (λ c. if_bound c (option_map (λ vni. fact.Vni vni e.0) (number_at e.1 LogicalTunnelKey))) (bound_same e.0)

  remote_same : (x : Remote) → remote_fact a x ≡ remote_fact b x
  remote_same x = λ i. if_bound (bound_same x.switch i) (option_map (λ ip. fact.Mac x.switch x.mac (There ip)) (other_address (own_same i) (locator_same x.locator i)))

  unlearnt_same : (l : List Learnt) (x : Remote) → unlearnt_fact a l x ≡ unlearnt_fact b l x
  unlearnt_same l x = ap (cond (is_some (found x.switch x.mac l)) None) (remote_same x)

  flood_same : (g : Group) → flood_fact a g ≡ flood_fact b g
  flood_same g = λ i. if_bound (bound_same g.switch i) (flood_to g.switch g.group (targets (mode_same g.switch i) (addresses_same g.set i)))

  entry_same : (id : ℕ) → entry_at a id ≡ entry_at b id
  entry_same id = ap (option_map (entry_of id)) (same.entries id)

  pub entries_same : (row : Contents) → entries_at a row ≡ entries_at b row
  entries_same row = λ i. in_order (filter_map (λ id. entry_same id i) (ids_at row AclEntries))

  listed_same : (acl : ℕ) → is_listed a acl ≡ is_listed b acl
  listed_same acl = ap (list_any (λ (c : Binding). names_acl acl c.lists)) bindings_same

  acl_same : (e : ℕ × Contents) → acl_fact a e ≡ acl_fact b e
  acl_same e = λ i. cond (listed_same e.0 i) (Some (fact.Acl e.0 (entries_same e.1 i))) None

  pub built_same : (l : List Learnt) → built a l ≡ built b l
  built_same l = λ i.
      filter_map (λ e. vni_same e i) (same_rows LogicalSwitch a b same.switches i)
      ++ map bind_fact (bindings_same i)
      ++ map learnt_fact l
      ++ filter_map (λ (e : ℕ × Contents). option_and_then (λ x. unlearnt_same l x i) (remote_of e.1)) (same_rows UcastMacsRemote a b same.remotes i)
      ++ filter_map (λ (e : ℕ × Contents). option_and_then (λ g. flood_same g i) (group_of e.1)) (same_rows McastMacsRemote a b same.floods i)
      ++ filter_map (λ e. acl_same e i) (same_rows Acl a b same.acls i)

-- ---- rows do not differ from themselves

fields_itself : (es : List (Column × Datum)) → pointwise (λ e f. same_column e.0 f.0 && same_datum e.1 f.1) es es ≡ true
fields_itself [] = refl
fields_itself (e ∷ es) =
    both (same_column e.0 e.0 && same_datum e.1 e.1) (pointwise (λ e f. same_column e.0 f.0 && same_datum e.1 f.1) es es)
    (both (same_column e.0 e.0) (same_datum e.1 e.1) ((eq_by_cmp_equiv column_total).refl e.0) ((same_datum_exact e.1 e.1).1 refl)) (fields_itself es)

never_differs : (o : Option Contents) → differ o o ≡ false
never_differs None = refl
never_differs (Some a) = ap not (both (same_table a.table a.table) (same_fields a.values a.values) (same_table_itself a.table) (fields_itself a.values.list))

pub no_changes : (r : Rows) → changes r r ≡ []
no_changes r = none (keys_of_both r r)
  where
    none : (ks : List Key) → filter_map (change_at r r) ks ≡ []
    none [] = refl
    none (k ∷ ks) =
        let c : RowChange = record { table = k.0; id = k.1; old = row_at r k; new = row_at r k } in
        ap (λ d. cons_option (cond d (Some c) None) (filter_map (change_at r r) ks)) (never_differs (row_at r k)) ∙ none ks
