-- A switch that a port names at a VLAN is bound.
use Rattle.std.proofs.Common.{◌≡◌, inl, inr, ℕ, pos, Bool, true, false, List, [], ◌∷◌, Option, Some, None, refl, sym, ap, ◌∙◌, subst, true≢false}
use Rattle.std.proofs.lemmas.Map.Entries.{lookup_head, lookup_tail}
use Rattle.std.specs.Map.{lookup}
use Rattle.std.specs.Option.{option_and_then, unwrap_or}
use Rattle.vtep_base.specs.Maps as maps
use Rattle.ovsdb_values.specs.declared.atoms.Atom.{Atom}
use Rattle.ovsdb_values.specs.declared.atoms.Atom.TheVariants.{Integer, Text, Id, Named}
use Rattle.ovsdb_values.specs.declared.datums.Datum.{Datum}
use Rattle.ovsdb_values.specs.declared.datums.Datum.TheVariants as datum
use Rattle.ovsdb_values.specs.Atoms.{same_atom}
use Rattle.ovsdb_values.specs.Sets.{value_in}
use Rattle.vtep_schema.specs.declared.Table.TheVariants.{PhysicalPort, LogicalSwitch}
use Rattle.vtep_schema.specs.declared.Column.{Column}
use Rattle.vtep_schema.specs.declared.Column.TheVariants.{PortVlanBindings}
use Rattle.vtep_schema.specs.Orders.{column_exact}
use Rattle.vtep_schema.specs.Tables.{column_rule}
use Rattle.vtep_rows.specs.Row.{Contents, map_in, id_in, pair_references, references_in, references}
use Rattle.vtep_rows.specs.Rows.{Rows, row_at, rows_of, same_key, names}
use Rattle.vtep_rows.specs.Sound.{Sound}
use Rattle.vtep_rows.proofs.Entries.{both, same_some}
use Rattle.vtep_rows.proofs.Restored.{itself}
use Rattle.mac_learning.specs.declared.Learnt.{Learnt}
use Rattle.forward_program.specs.Built.{IsIn}
use Rattle.forward_program.specs.Readings.{id_at_key}
use Rattle.forward_program.specs.Same.{same_number}
use Rattle.forward_program.proofs.Columns.{id_is}
use Rattle.forward_program.proofs.InLists.{flat_in}
use Rattle.forward_program.proofs.MapLists.{found_in}
use Rattle.forward_program.proofs.RowsIn.{rows_in}
use Rattle.local_tables.specs.Followed.{switch_at, is_bound_there, is_named_by_port}
use Rattle.local_tables.specs.Following.{is_bound}
use Rattle.local_tables.specs.LocalRows.{row_with}
use Rattle.local_tables.proofs.Members.{in_any, all_in}
use Rattle.local_tables.proofs.LocalLaws.{number_same}

-- the value of a key is that of a pair
pair_of : (p : Atom → Bool) (ps : List (Atom × Atom)) (v : Atom) → lookup p ps ≡ Some v → (x : Atom × Atom) × IsIn x ps × (x.1 ≡ v)
pair_of p [] v h = cc
pair_of p (x ∷ ps) v h = by (p x.0) refl (pair_of p ps v)
  where
    by : (b : Bool) → p x.0 ≡ b → (lookup p ps ≡ Some v → (y : Atom × Atom) × IsIn y ps × (y.1 ≡ v)) → (y : Atom × Atom) × IsIn y (x ∷ ps) × (y.1 ≡ v)
    by true on rest = (x, inl refl, same_some x.1 v (sym (lookup_head p x ps on) ∙ h))
    by false off rest = let found = rest (sym (lookup_tail p x ps off) ∙ h) in (found.0, inr found.1, found.2)

-- and what it names, the row of its port names
pair_names : (x : Atom × Atom) (s : ℕ) → x.1 ≡ Id s → IsIn (LogicalSwitch, s) (pair_references (column_rule PortVlanBindings).key (column_rule PortVlanBindings).value x)
pair_names x s is = subst (λ (y : Atom). IsIn (LogicalSwitch, s) (pair_references (column_rule PortVlanBindings).key (column_rule PortVlanBindings).value (x.0, y))) (sym is) (last x.0)
  where
    last : (a : Atom) → IsIn (LogicalSwitch, s) (pair_references (column_rule PortVlanBindings).key (column_rule PortVlanBindings).value (a, Id s))
    last (Integer z) = inl refl
    last (Text t) = inl refl
    last (Id u) = inl refl
    last (Named t) = inl refl

module _ (row : Contents) (vlan s : ℕ) where
  held_by : (o : Option Datum) → maps.get row.values PortVlanBindings ≡ o → option_and_then id_in (value_in (map_in (unwrap_or o (datum.Set []))) (Integer (pos vlan))) ≡ Some s → IsIn (LogicalSwitch, s) (references row)
  held_by None e h = cc
  held_by (Some (datum.Set xs)) e h = cc
  held_by (Some (datum.Map ps)) e h = by (value_in ps (Integer (pos vlan))) refl h
    where
      by : (o : Option Atom) → value_in ps (Integer (pos vlan)) ≡ o → option_and_then id_in o ≡ Some s → IsIn (LogicalSwitch, s) (references row)
      by None g f = cc
      by (Some v) g f =
          let pair = pair_of (same_atom (Integer (pos vlan))) ps v g in
          flat_in (λ (c : Column × Datum). references_in (column_rule c.0) c.1) (LogicalSwitch, s) (PortVlanBindings, datum.Map ps) row.values.list
          (found_in column_exact PortVlanBindings (datum.Map ps) row.values.list e)
          (flat_in (pair_references (column_rule PortVlanBindings).key (column_rule PortVlanBindings).value) (LogicalSwitch, s) pair.0 ps pair.1 (pair_names pair.0 s (pair.2 ∙ id_is v s f)))

  named_at : id_at_key row PortVlanBindings vlan ≡ Some s → IsIn (LogicalSwitch, s) (references row)
  named_at h = held_by (maps.get row.values PortVlanBindings) refl h

module _ (r : Rows) (sound : Sound r) (e : Learnt) where
  at_row : (id : ℕ) (o : Option Contents) → row_at r (PhysicalPort, id) ≡ o → option_and_then (λ row. id_at_key row PortVlanBindings e.vlan) o ≡ Some e.switch → is_bound r e.switch ≡ true
  at_row id None there h = cc
  at_row id (Some row) there h =
      let listed = named_at row e.vlan e.switch h in
      both (maps.has r.rows (LogicalSwitch, e.switch)) (is_named_by_port r e.switch)
      (all_in (maps.has r.rows) (references row) (LogicalSwitch, e.switch) (sound.there (PhysicalPort, id) row there) listed)
      (in_any (λ row. names row.1 (LogicalSwitch, e.switch)) (rows_of PhysicalPort r) (id, row) (rows_in r PhysicalPort id row there)
      (in_any (same_key (LogicalSwitch, e.switch)) (references row) (LogicalSwitch, e.switch) listed (itself (LogicalSwitch, e.switch))))

  at_port : (o : Option ℕ) → option_and_then (λ id. option_and_then (λ row. id_at_key row PortVlanBindings e.vlan) (row_at r (PhysicalPort, id))) o ≡ Some e.switch → is_bound r e.switch ≡ true
  at_port None h = cc
  at_port (Some id) h = at_row id (row_at r (PhysicalPort, id)) refl h

  named_there : (o : Option ℕ) → same_number o (Some e.switch) ≡ true → o ≡ Some e.switch
  named_there None h = absurd (true≢false (sym h))
  named_there (Some s) h = ap Some (number_same s e.switch h)

  -- the switch of an entry that is bound
  pub bound_switch : is_bound_there r e ≡ true → is_bound r e.switch ≡ true
  bound_switch h = at_port (row_with PhysicalPort (Text e.port ∷ []) r) (named_there (switch_at r e.port e.vlan) h)
