-- A table with the same rows is read the same.
use Rattle.std.proofs.Common.{◌≡◌, ℕ, Bool, true, false, cond, ◌&&◌, List, [], ◌∷◌, map, is_some, Option, Some, None, refl, sym, ap, ◌∙◌}
use Rattle.std.specs.List.{filter, list_any}
use Rattle.std.specs.Option.{option_and_then}
use Rattle.vtep_base.specs.Reading.{Bytes}
use Rattle.vtep_base.specs.Maps as maps
use Rattle.vtep_base.specs.Maps.{Map}
use Rattle.ovsdb_values.specs.declared.atoms.Atom.{Atom}
use Rattle.ovsdb_values.specs.declared.atoms.Atom.TheVariants.{Text}
use Rattle.vtep_schema.specs.declared.Table.{Table}
use Rattle.vtep_schema.specs.declared.Table.TheVariants.{PhysicalPort, LogicalSwitch}
use Rattle.vtep_schema.specs.declared.Column.TheVariants.{PortVlanBindings}
use Rattle.vtep_schema.specs.Tables.{same_table}
use Rattle.vtep_rows.specs.Row.{Contents, first}
use Rattle.vtep_rows.specs.Rows.{Key, key_cmp, Rows, rows_of, row_at, ids_of, names}
use Rattle.vtep_rows.specs.Orders.{key_total, key_exact}
use Rattle.vtep_rows.proofs.Kept.{same_table_exact}
use Rattle.mac_learning.specs.declared.Learnt.{Learnt}
use Rattle.forward_program.specs.Readings.{id_at_key}
use Rattle.forward_program.specs.Same.{same_number}
use Rattle.local_tables.specs.LocalRows.{has_key, row_with}
use Rattle.local_tables.specs.Followed.{switch_at, is_bound_there, is_named_by_port, bound_switches}
use Rattle.local_tables.specs.Following.{is_bound}
use Rattle.local_tables.proofs.RemovingLaws.{at_picked}

abbrev pub SameTable : Table → Rows → Rows → Type 0
SameTable t a b = (i : ℕ) → row_at a (t, i) ≡ row_at b (t, i)

module _ (t : Table) (a b : Rows) (same : SameTable t a b) where
  abbrev of_table : Key → Bool
  of_table k = same_table k.0 t

  in_table : (q : Key) (c : Bool) → same_table q.0 t ≡ c → cond c (row_at a q) None ≡ cond c (row_at b q) None
  in_table q true e = let is = same_table_exact q.0 t e in ap (λ u. row_at a (u, q.1)) is ∙ same q.1 ∙ ap (λ u. row_at b (u, q.1)) (sym is)
  in_table q false e = refl

  pub same_rows : rows_of t a ≡ rows_of t b
  same_rows =
      ap (λ (m : Map key_cmp Contents). map (λ e. (e.0.1, e.1)) m.list)
      (maps.same_map key_total key_exact (maps.keep of_table a.rows) (maps.keep of_table b.rows)
      (λ q. at_picked of_table a q ∙ in_table q (same_table q.0 t) refl ∙ sym (at_picked of_table b q)))

  pub same_with : (key : List Atom) → row_with t key a ≡ row_with t key b
  same_with key = ap (λ rows. first (map (λ (row : ℕ × Contents). row.0) (filter (λ row. has_key t key row.1) rows))) same_rows

  pub same_ids_of : ids_of t a ≡ ids_of t b
  same_ids_of = ap (map (λ (row : ℕ × Contents). row.0)) same_rows

module _ (a b : Rows) (ports : SameTable PhysicalPort a b) where
  pub same_switch_at : (port : Bytes) (vlan : ℕ) → switch_at a port vlan ≡ switch_at b port vlan
  same_switch_at port vlan =
      ap (option_and_then (λ id. option_and_then (λ row. id_at_key row PortVlanBindings vlan) (row_at a (PhysicalPort, id)))) (same_with PhysicalPort a b ports (Text port ∷ []))
      ∙ by (row_with PhysicalPort (Text port ∷ []) b)
    where
      by : (o : Option ℕ) → option_and_then (λ id. option_and_then (λ row. id_at_key row PortVlanBindings vlan) (row_at a (PhysicalPort, id))) o ≡ option_and_then (λ id. option_and_then (λ row. id_at_key row PortVlanBindings vlan) (row_at b (PhysicalPort, id))) o
      by None = refl
      by (Some id) = ap (option_and_then (λ row. id_at_key row PortVlanBindings vlan)) (ports id)

  pub same_bound_there : (e : Learnt) → is_bound_there a e ≡ is_bound_there b e
  same_bound_there e = ap (λ o. same_number o (Some e.switch)) (same_switch_at e.port e.vlan)

  pub same_named : (s : ℕ) → is_named_by_port a s ≡ is_named_by_port b s
  same_named s = ap (list_any (λ row. names row.1 (LogicalSwitch, s))) (same_rows PhysicalPort a b ports)

  pub same_bound : SameTable LogicalSwitch a b → (s : ℕ) → is_bound a s ≡ is_bound b s
  same_bound switches s i = is_some (switches s i) && same_named s i

  pub same_switches : SameTable LogicalSwitch a b → bound_switches a ≡ bound_switches b
  same_switches switches = ap (filter (is_named_by_port a)) (same_ids_of LogicalSwitch a b switches) ∙ alike (ids_of LogicalSwitch b)
    where
      alike : (ids : List ℕ) → filter (is_named_by_port a) ids ≡ filter (is_named_by_port b) ids
      alike [] = refl
      alike (s ∷ ids) = λ i. cond (same_named s i) (s ∷ alike ids i) (alike ids i)
