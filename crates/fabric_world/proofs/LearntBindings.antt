-- A learnt address is at a binding of its switch, and what is learnt at a binding is.
use Rattle.std.proofs.Common.{◌≡◌, ℕ, pos, negsuc, Bool, true, false, cond, ◌&&◌, List, [], ◌∷◌, length, is_some, Option, Some, None, refl, sym, ap, subst, ◌∙◌, true≢false}
use Rattle.std.proofs.lemmas.Map.Entries.{lookup_head, lookup_tail}
use Rattle.std.proofs.lemmas.Map.Lookups.{exact_unsigned}
use Rattle.std.specs.List.{filter_map, list_all}
use Rattle.std.specs.Option.{option_and_then, unwrap_or}
use Rattle.std.specs.Ordering.{nat_cmp, eq_by_cmp}
use Rattle.std.specs.Cmp.{Equal-is, eq_by_cmp_equiv, first_so, second_so, nat_cmp_total}
use Rattle.std.specs.FinMap.{find}
use Rattle.vtep_base.specs.Maps as maps
use Rattle.vtep_base.specs.Texts.{name_of, is_name}
use Rattle.vtep_base.proofs.NameLaws.{name_printed_is_read}
use Rattle.ovsdb_values.specs.declared.atoms.Atom.{Atom}
use Rattle.ovsdb_values.specs.declared.atoms.Atom.TheVariants.{Integer, Text, Id, Named}
use Rattle.ovsdb_values.specs.declared.datums.Datum.{Datum}
use Rattle.ovsdb_values.specs.declared.datums.Datum.TheVariants as datum
use Rattle.ovsdb_values.specs.Atoms.{same_atom}
use Rattle.ovsdb_values.specs.Exact.{same_atom_exact}
use Rattle.ovsdb_values.specs.Sets.{value_in}
use Rattle.vtep_schema.specs.declared.Table.TheVariants.{PhysicalPort, LogicalSwitch}
use Rattle.vtep_schema.specs.declared.Column.TheVariants.{PortName, PortVlanBindings}
use Rattle.vtep_schema.specs.declared.rules.Domain.TheVariants as domain
use Rattle.vtep_schema.specs.declared.rules.ColumnRule.{ColumnRule}
use Rattle.vtep_schema.specs.Tables.{column_rule}
use Rattle.vtep_rows.specs.Row.{Contents, is_row, allowed, atom_allowed, size_allowed, atoms_at, pairs_at, map_in, text_in, id_in, first}
use Rattle.vtep_rows.specs.Rows.{Rows, IsRows, row_at, rows_of}
use Rattle.vtep_rows.specs.Sound.{Sound}
use Rattle.vtep_rows.specs.Keyed.{holds_only}
use Rattle.vtep_rows.proofs.Kept.{its_contents}
use Rattle.vtep_rows.proofs.RowLaws.{value_allowed}
use Rattle.mac_learning.specs.declared.Learnt.{Learnt}
use Rattle.mac_learning.specs.Learning.{entry}
use Rattle.forward_program.specs.Built.{IsIn, Binding, binding, bindings_of, bindings}
use Rattle.forward_program.specs.Readings.{number_and_id, id_at_key, port_name, vlan_bindings}
use Rattle.forward_program.specs.Same.{same_number}
use Rattle.forward_program.proofs.Columns.{text_alone}
use Rattle.forward_program.proofs.HopLaws.{number_same, number_itself}
use Rattle.forward_program.proofs.InLists.{flat_in}
use Rattle.forward_program.proofs.MapLists.{in_get}
use Rattle.forward_program.proofs.PortAt.{bound_here}
use Rattle.forward_program.proofs.RowsIn.{rows_in}
use Rattle.forward_program.proofs.Unique.{binding_of, port_text}
use Rattle.local_tables.specs.LocalRows.{row_with}
use Rattle.local_tables.specs.Followed.{switch_at, is_bound_there}
use Rattle.local_tables.proofs.Keyed.{HasKey, first_has, has_first, sound_keyed}
use Rattle.fabric_world.proofs.Facts.{Binds}

only_so : (xs : List Atom) (x : Atom) → holds_only xs x ≡ true → xs ≡ x ∷ []
only_so [] x h = absurd (true≢false (sym h))
only_so (y ∷ []) x h = ap (λ z. z ∷ []) ((same_atom_exact y x).0 h)
only_so (y ∷ z ∷ zs) x h = absurd (true≢false (sym h))

named_there : (o : Option ℕ) (s : ℕ) → same_number o (Some s) ≡ true → o ≡ Some s
named_there None s h = absurd (true≢false (sym h))
named_there (Some n) s h = ap Some (number_same n s h)

module _ (r : Rows) (e : Learnt) (named : is_name e.port ≡ true) where
  in_row : (id : ℕ) (row : Contents) → row_at r (PhysicalPort, id) ≡ Some row → holds_only (atoms_at row PortName) (Text e.port) ≡ true → id_at_key row PortVlanBindings e.vlan ≡ Some e.switch → Binds r e.port e.vlan e.switch
  in_row id row there held at =
      let text : port_name row ≡ Some e.port = ap (λ xs. option_and_then name_of (first (filter_map text_in xs))) (only_so (atoms_at row PortName) (Text e.port) held) ∙ name_printed_is_read e.port named in record {
        of = binding e.port row (e.vlan, e.switch);
        there = flat_in (λ (x : ℕ × Contents). bindings_of x.1) (binding e.port row (e.vlan, e.switch)) (id, row) (rows_of PhysicalPort r) (rows_in r PhysicalPort id row there) (bound_here row e.port e.vlan e.switch text at);
        port_is = refl;
        vlan_is = refl;
        switch_is = refl;
      }

  at_port : (o : Option ℕ) → row_with PhysicalPort (Text e.port ∷ []) r ≡ o → option_and_then (λ id. option_and_then (λ row. id_at_key row PortVlanBindings e.vlan) (row_at r (PhysicalPort, id))) o ≡ Some e.switch → Binds r e.port e.vlan e.switch
  at_port None none h = absurd (cc)
  at_port (Some id) is h =
      let x = first_has r PhysicalPort (Text e.port ∷ []) id is in
      in_row id x.row x.there (first_so (holds_only (atoms_at x.row PortName) (Text e.port)) true x.held) (ap (option_and_then (λ row. id_at_key row PortVlanBindings e.vlan)) (sym x.there) ∙ h)

  pub learnt_binds : is_bound_there r e ≡ true → Binds r e.port e.vlan e.switch
  learnt_binds bound = at_port (row_with PhysicalPort (Text e.port ∷ []) r) refl (named_there (switch_at r e.port e.vlan) e.switch bound)

-- ---- the other way round

abbrev rule : ColumnRule
rule = column_rule PortVlanBindings

abbrev IsPair : Atom × Atom → Type 0
IsPair p = (n : ℕ) × (u : ℕ) × (p ≡ (Integer (pos n), Id u))

its_key : (a : Atom) → atom_allowed rule.key a ≡ true → (n : ℕ) × (a ≡ Integer (pos n))
its_key (Integer (pos n)) h = (n, refl)
its_key (Integer (negsuc n)) h = cc
its_key (Text t) h = cc
its_key (Id u) h = cc
its_key (Named t) h = cc

its_value : (a : Atom) → atom_allowed (domain.Row LogicalSwitch) a ≡ true → (u : ℕ) × (a ≡ Id u)
its_value (Integer z) h = cc
its_value (Text t) h = cc
its_value (Id u) h = (u, refl)
its_value (Named t) h = cc

its_pair : (p : Atom × Atom) → (atom_allowed rule.key p.0 && atom_allowed (domain.Row LogicalSwitch) p.1) ≡ true → IsPair p
its_pair p h =
    let a = its_key p.0 (first_so (atom_allowed rule.key p.0) (atom_allowed (domain.Row LogicalSwitch) p.1) h) in
    let b = its_value p.1 (second_so (atom_allowed rule.key p.0) (atom_allowed (domain.Row LogicalSwitch) p.1) h) in
    (a.0, b.0, λ i. (a.1 i, b.1 i))

abbrev ArePairs : List (Atom × Atom) → Type 0
ArePairs ps = list_all (λ p. atom_allowed rule.key p.0 && atom_allowed (domain.Row LogicalSwitch) p.1) ps ≡ true

key_value : (n s : ℕ) (ps : List (Atom × Atom)) → ArePairs ps → find nat_cmp n (filter_map number_and_id ps) ≡ Some s → option_and_then id_in (value_in ps (Integer (pos n))) ≡ Some s
key_value n s [] all h = cc
key_value n s (p ∷ ps) all h =
    let is = its_pair p (first_so (atom_allowed rule.key p.0 && atom_allowed (domain.Row LogicalSwitch) p.1) _ all) in
    by is.0 is.1 is.2 (eq_by_cmp nat_cmp n is.0) refl (key_value n s ps (second_so (atom_allowed rule.key p.0 && atom_allowed (domain.Row LogicalSwitch) p.1) _ all))
  where
    by : (m u : ℕ) → p ≡ (Integer (pos m), Id u) → (b : Bool) → eq_by_cmp nat_cmp n m ≡ b → (find nat_cmp n (filter_map number_and_id ps) ≡ Some s → option_and_then id_in (value_in ps (Integer (pos n))) ≡ Some s)
        → option_and_then id_in (value_in (p ∷ ps) (Integer (pos n))) ≡ Some s
    by m u is true tie rest =
        let same : n ≡ m = exact_unsigned n m ((Equal-is (nat_cmp n m)).0 tie) in
        let here : Some u ≡ Some s = ap (λ b. cond b (Some u) (find nat_cmp n (filter_map number_and_id ps))) (sym tie) ∙ (λ i. find nat_cmp n (filter_map number_and_id (sym is i ∷ ps))) ∙ h in
        ap (option_and_then id_in) (lookup_head (same_atom (Integer (pos n))) p ps ((same_atom_exact (Integer (pos n)) p.0).1 (ap (λ k. Integer (pos k)) same ∙ sym (ap (λ (q : Atom × Atom). q.0) is))))
        ∙ ap (λ (q : Atom × Atom). id_in q.1) is ∙ here
    by m u is false apart rest =
        ap (option_and_then id_in) (lookup_tail (same_atom (Integer (pos n))) p ps (other (same_atom (Integer (pos n)) p.0) refl))
        ∙ rest (ap (λ b. cond b (Some u) (find nat_cmp n (filter_map number_and_id ps))) (sym apart) ∙ (λ i. find nat_cmp n (filter_map number_and_id (sym is i ∷ ps))) ∙ h)
      where
        other : (b : Bool) → same_atom (Integer (pos n)) p.0 ≡ b → b ≡ false
        other false e = refl
        other true e =
            let same : n ≡ m = number_of n m ((same_atom_exact (Integer (pos n)) p.0).0 e ∙ ap (λ (q : Atom × Atom). q.0) is) in
            sym ((eq_by_cmp_equiv nat_cmp_total).refl n) ∙ ap (eq_by_cmp nat_cmp n) same ∙ apart
          where
            number_of : (k j : ℕ) → Integer (pos k) ≡ Integer (pos j) → k ≡ j
            number_of k j g = cc

map_pairs : (d : Datum) → allowed PortVlanBindings d ≡ true → ArePairs (map_in d)
map_pairs (datum.Set xs) h = refl
map_pairs (datum.Map ps) h = second_so (size_allowed rule (length ps)) _ h

row_pairs : (row : Contents) → is_row row ≡ true → ArePairs (pairs_at row PortVlanBindings)
row_pairs row is = by (maps.get row.values PortVlanBindings) refl
  where
    by : (o : Option Datum) → maps.get row.values PortVlanBindings ≡ o → ArePairs (map_in (unwrap_or (maps.get row.values PortVlanBindings) (datum.Set [])))
    by None none = subst (λ o. ArePairs (map_in (unwrap_or o (datum.Set [])))) (sym none) refl
    by (Some d) at = subst (λ o. ArePairs (map_in (unwrap_or o (datum.Set [])))) (sym at) (map_pairs d (value_allowed row PortVlanBindings d is at))

module _ (r : Rows) (rows : IsRows r) (sound : Sound r) (c : Binding) (c_in : IsIn c (bindings r)) where
  at_key : (row : Contents) → is_row row ≡ true → IsIn (c.vlan, c.switch) (vlan_bindings row) → id_at_key row PortVlanBindings c.vlan ≡ Some c.switch
  at_key row is there =
      let pairs = filter_map number_and_id (pairs_at row PortVlanBindings) in
      key_value c.vlan c.switch (pairs_at row PortVlanBindings) (row_pairs row is) (sym (maps.get-of_list nat_cmp_total pairs c.vlan) ∙ in_get nat_cmp_total (maps.map_by nat_cmp pairs) c.vlan c.switch there)

  switch_there : switch_at r c.port c.vlan ≡ Some c.switch
  switch_there = by (row_with PhysicalPort (Text c.port ∷ []) r) refl (has_first r PhysicalPort (Text c.port ∷ []) (binding_of r rows sound c c_in).id has)
    where
      has : HasKey r PhysicalPort (Text c.port ∷ []) (binding_of r rows sound c c_in).id
      has =
          let x = binding_of r rows sound c c_in in
          let alone : atoms_at x.row PortName ≡ Text c.port ∷ [] = text_alone x.row PortName (its_contents r PhysicalPort x.id x.row rows x.at) refl c.port (port_text x.row c.port x.named) in
          record { row = x.row; there = x.at; held = ap (λ xs. holds_only xs (Text c.port) && true) alone ∙ ap (λ b. b && true) ((same_atom_exact (Text c.port) (Text c.port)).1 refl) }

      by : (o : Option ℕ) → row_with PhysicalPort (Text c.port ∷ []) r ≡ o → is_some o ≡ true → option_and_then (λ id. option_and_then (λ row. id_at_key row PortVlanBindings c.vlan) (row_at r (PhysicalPort, id))) (row_with PhysicalPort (Text c.port ∷ []) r) ≡ Some c.switch
      by None none h = absurd (true≢false (sym h))
      by (Some id) is h =
          let x = binding_of r rows sound c c_in in
          let same : id ≡ x.id = sound_keyed r PhysicalPort sound (Text c.port ∷ []) id x.id (first_has r PhysicalPort (Text c.port ∷ []) id is) has in
          ap (option_and_then (λ id. option_and_then (λ row. id_at_key row PortVlanBindings c.vlan) (row_at r (PhysicalPort, id)))) (is ∙ ap Some same)
          ∙ ap (option_and_then (λ row. id_at_key row PortVlanBindings c.vlan)) x.at
          ∙ at_key x.row (its_contents r PhysicalPort x.id x.row rows x.at) x.bound

  pub binds_learnt : (mac now : ℕ) → is_bound_there r (entry c.switch mac c.port c.vlan now) ≡ true
  binds_learnt mac now = ap (λ o. same_number o (Some c.switch)) switch_there ∙ number_itself c.switch
