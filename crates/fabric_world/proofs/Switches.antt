-- Bindings are of one switch by its name exactly where they name one row.
use Rattle.std.proofs.Common.{◌≡◌, ◌≤◌, inl, ℕ, suc, pos, nat_le, Bool, true, false, ◌&&◌, ◌||◌, List, [], ◌∷◌, length, is_some, Option, Some, None, refl, sym, ap, subst, ◌∙◌, arith}
use Rattle.std.specs.List.{list_all, filter_map}
use Rattle.std.specs.Option.{option_map, unwrap_or}
use Rattle.std.specs.Ordering.{nat_cmp}
use Rattle.std.specs.Cmp.{first_so, second_so, nat_cmp_total}
use Rattle.std.proofs.lemmas.Map.Lookups.{exact_unsigned}
use Rattle.vtep_base.specs.Reading.{Bytes}
use Rattle.vtep_base.specs.Maps as maps
use Rattle.ovsdb_values.specs.declared.atoms.Atom.{Atom}
use Rattle.ovsdb_values.specs.declared.atoms.Atom.TheVariants.{Integer, Text, Id, Named}
use Rattle.ovsdb_values.specs.declared.datums.Datum.{Datum}
use Rattle.ovsdb_values.specs.declared.datums.Datum.TheVariants as datum
use Rattle.vtep_schema.specs.declared.Table.TheVariants.{LogicalSwitch, PhysicalPort}
use Rattle.vtep_schema.specs.declared.Column.{Column}
use Rattle.vtep_schema.specs.declared.Column.TheVariants.{LogicalName, LogicalTunnelKey, PortVlanBindings}
use Rattle.vtep_schema.specs.declared.rules.Domain.TheVariants as domain
use Rattle.vtep_schema.specs.Tables.{column_rule, belongs}
use Rattle.vtep_schema.specs.Orders.{column_exact}
use Rattle.vtep_rows.specs.Row.{Contents, is_row, allowed, atom_allowed, references, references_in, pair_references, set_in, map_in, atoms_at, pairs_at, text_at, text_in, first}
use Rattle.vtep_rows.specs.Rows.{Rows, IsRows, row_at}
use Rattle.vtep_rows.specs.Sound.{Sound, hold_same, agree}
use Rattle.vtep_rows.proofs.Entries.{both}
use Rattle.vtep_rows.proofs.Kept.{its_contents, its_table, so_le}
use Rattle.vtep_rows.proofs.RowLaws.{not_absent, value_allowed}
use Rattle.forward_program.specs.Readings.{number_and_id, vlan_bindings}
use Rattle.forward_program.specs.Built.{IsIn, Binding, bindings}
use Rattle.forward_program.proofs.Columns.{hold_one}
use Rattle.forward_program.proofs.InLists.{flat_in, in_picked}
use Rattle.forward_program.proofs.MapLists.{get_in, in_get, found_in}
use Rattle.forward_program.proofs.Unique.{binding_of}
use Rattle.fabric_world.specs.Logical.{switch_of}
use Rattle.fabric_world.proofs.Lists.{all_in}

-- ---- names

two : (k : ℕ) → nat_le (suc (suc k)) 1 ≡ true → ⊥
two k few = let below : suc (suc k) ≤ 1 = so_le (suc (suc k)) 1 few in omega arith

only_text : (xs : List Atom) → allowed LogicalName (datum.Set xs) ≡ true → (t : Bytes) × (xs ≡ Text t ∷ [])
only_text [] h = cc
only_text (Integer z ∷ []) h = cc
only_text (Text t ∷ []) h = (t, refl)
only_text (Id u ∷ []) h = cc
only_text (Named t ∷ []) h = cc
only_text (x ∷ y ∷ xs) h =
    let n = suc (suc (length xs)) in
    absurd (two (length xs) (second_so (nat_le 1 n) (nat_le n 1) (first_so (nat_le 1 n && nat_le n 1) (list_all (atom_allowed domain.Text) (x ∷ y ∷ xs)) h)))

named_by : (d : Datum) → allowed LogicalName d ≡ true → (t : Bytes) × (set_in d ≡ Text t ∷ [])
named_by (datum.Set xs) h = only_text xs h
named_by (datum.Map ps) h = cc

first_key : (p q : Bool) → p ≡ true → (p || (q || false)) ≡ true
first_key true q e = refl
first_key false q e = cc

-- ---- the rows that vlan_bindings name

pair_is : (p : Atom × Atom) (n u : ℕ) → number_and_id p ≡ Some (n, u) → p.1 ≡ Id u
pair_is (Integer (pos n), Id v) m u e = ap (λ (o : Option (ℕ × ℕ)). Id (id_of o)) e
  where
    id_of : Option (ℕ × ℕ) → ℕ
    id_of None = 0
    id_of (Some x) = x.1
pair_is p m u e = cc

pair_names : (p : Atom × Atom) (n u : ℕ) → number_and_id p ≡ Some (n, u) → IsIn (LogicalSwitch, u) (pair_references (column_rule PortVlanBindings).key (column_rule PortVlanBindings).value p)
pair_names (Integer (pos n), Id v) m u e = inl (let same : v ≡ u = id_same v u (sym (pair_is (Integer (pos n), Id v) m u e)) in λ i. (LogicalSwitch, sym same i))
  where
    id_same : (a b : ℕ) → Id b ≡ Id a → a ≡ b
    id_same a b f = cc
pair_names p m u e = cc

datum_names : (d : Datum) (p : Atom × Atom) (n u : ℕ) → IsIn p (map_in d) → number_and_id p ≡ Some (n, u) → IsIn (LogicalSwitch, u) (references_in (column_rule PortVlanBindings) d)
datum_names (datum.Set xs) p n u is e = absurd is
datum_names (datum.Map ps) p n u is e = flat_in (pair_references (column_rule PortVlanBindings).key (column_rule PortVlanBindings).value) (LogicalSwitch, u) p ps is (pair_names p n u e)

row_names : (row : Contents) (p : Atom × Atom) (n u : ℕ) → IsIn p (pairs_at row PortVlanBindings) → number_and_id p ≡ Some (n, u) → IsIn (LogicalSwitch, u) (references row)
row_names row p n u is e = by (maps.get row.values PortVlanBindings) refl
  where
    by : (o : Option Datum) → maps.get row.values PortVlanBindings ≡ o → IsIn (LogicalSwitch, u) (references row)
    by None none = absurd (subst (λ o. IsIn p (map_in (unwrap_or o (datum.Set [])))) none is)
    by (Some d) at =
        flat_in (λ (x : Column × Datum). references_in (column_rule x.0) x.1) (LogicalSwitch, u) (PortVlanBindings, d) row.values.list (get_in column_exact row.values PortVlanBindings d at)
        (datum_names d p n u (subst (λ o. IsIn p (map_in (unwrap_or o (datum.Set [])))) at is) e)

bound_pair : (row : Contents) (n u : ℕ) → IsIn (n, u) (vlan_bindings row) → (p : Atom × Atom) × IsIn p (pairs_at row PortVlanBindings) × (number_and_id p ≡ Some (n, u))
bound_pair row n u is =
    let pairs : List (ℕ × ℕ) = filter_map number_and_id (pairs_at row PortVlanBindings) in
    let at : maps.get (maps.map_by nat_cmp pairs) n ≡ Some u = in_get nat_cmp_total (maps.map_by nat_cmp pairs) n u is in
    in_picked number_and_id (n, u) (pairs_at row PortVlanBindings) (found_in exact_unsigned n u pairs (sym (maps.get-of_list nat_cmp_total pairs n) ∙ at))

module _ (r : Rows) (rows : IsRows r) (sound : Sound r) where
  -- a switch has one name
  named : (s : ℕ) (row : Contents) → row_at r (LogicalSwitch, s) ≡ Some row → (t : Bytes) × (atoms_at row LogicalName ≡ Text t ∷ [])
  named s row at = by (maps.get row.values LogicalName) refl
    where
      is : is_row row ≡ true
      is = its_contents r LogicalSwitch s row rows at

      by : (o : Option Datum) → maps.get row.values LogicalName ≡ o → (t : Bytes) × (atoms_at row LogicalName ≡ Text t ∷ [])
      by None e = absurd (not_absent row LogicalName is (ap (belongs LogicalName) (its_table r LogicalSwitch s row rows at)) e)
      by (Some d) e = let n = named_by d (value_allowed row LogicalName d is e) in (n.0, ap (λ o. set_in (unwrap_or o (datum.Set []))) e ∙ n.1)

  name_is : (s : ℕ) (row : Contents) (t : Bytes) → row_at r (LogicalSwitch, s) ≡ Some row → atoms_at row LogicalName ≡ Text t ∷ [] → switch_of r s ≡ t
  name_is s row t at alone = ap (λ o. unwrap_or (option_map (λ (x : Contents). text_at x LogicalName) o) []) at ∙ ap (λ xs. unwrap_or (first (filter_map text_in xs)) []) alone

  -- and no two have the same
  one_name : (s u : ℕ) (a b : Contents) → row_at r (LogicalSwitch, s) ≡ Some a → row_at r (LogicalSwitch, u) ≡ Some b → switch_of r s ≡ switch_of r u → s ≡ u
  one_name s u a b at bt same =
      let x = named s a at in
      let y = named u b bt in
      let text : y.0 ≡ x.0 = sym (name_is u b y.0 bt y.1) ∙ sym same ∙ name_is s a x.0 at x.1 in
      sound.unique LogicalSwitch s u a b at bt
      (first_key (agree (LogicalName ∷ []) a b) (agree (LogicalTunnelKey ∷ []) a b)
      (both (hold_same (atoms_at a LogicalName) (atoms_at b LogicalName)) true
      (hold_one (Text x.0) (atoms_at a LogicalName) (atoms_at b LogicalName) x.1 (y.1 ∙ ap (λ t. Text t ∷ []) text)) refl))

  -- the row of a binding's switch is there
  switch_there : (c : Binding) → IsIn c (bindings r) → (a : Contents) × (row_at r (LogicalSwitch, c.switch) ≡ Some a)
  switch_there c is = by (row_at r (LogicalSwitch, c.switch)) refl
    where
      by : (o : Option Contents) → row_at r (LogicalSwitch, c.switch) ≡ o → (a : Contents) × (row_at r (LogicalSwitch, c.switch) ≡ Some a)
      by None none =
          let x = binding_of r rows sound c is in
          let p = bound_pair x.row c.vlan c.switch x.bound in
          let has : maps.has r.rows (LogicalSwitch, c.switch) ≡ true =
          all_in (maps.has r.rows) (LogicalSwitch, c.switch) (references x.row) (sound.there (PhysicalPort, x.id) x.row x.at) (row_names x.row p.0 c.vlan c.switch p.1 p.2) in
          let clash : false ≡ true = ap is_some (sym none) ∙ has in
          cc
      by (Some a) at = (a, at)

  pub names_are_rows : (b c : Binding) → IsIn b (bindings r) → IsIn c (bindings r) → switch_of r b.switch ≡ switch_of r c.switch → b.switch ≡ c.switch
  names_are_rows b c b_in c_in same = let x = switch_there b b_in in let y = switch_there c c_in in one_name b.switch c.switch x.0 y.0 x.1 y.1 same
