-- One port less: the rows that are left are settled.
use Rattle.std.proofs.Common.{◌≡◌, ℕ, ◌≤◌, ◌==◌, Bool, true, false, cond, not, ◌&&◌, ◌||◌, List, [], ◌∷◌, map, length, is_some, Option, Some, None, refl, sym, ap, subst, ◌∙◌, true≢false, arith}
use Rattle.std.proofs.lemmas.Bool.Decides.{nat_tests}
use Rattle.std.proofs.lemmas.List.{length-map}
use Rattle.std.specs.List.{filter, filter_map, flat_map, cons_option, list_all, list_any}
use Rattle.std.proofs.lemmas.List.Folds.{list_all-append}
use Rattle.std.specs.Option.{unwrap_or}
use Rattle.std.specs.Ordering.{eq_by_cmp}
use Rattle.std.specs.Cmp.{eq_by_cmp_equiv, first_so, second_so}
use Rattle.vtep_base.specs.Maps as maps
use Rattle.ovsdb_values.specs.declared.atoms.Atom.{Atom}
use Rattle.ovsdb_values.specs.declared.atoms.Atom.TheVariants.{Id}
use Rattle.ovsdb_values.specs.declared.datums.Datum.{Datum}
use Rattle.ovsdb_values.specs.declared.datums.Datum.TheVariants as datum
use Rattle.ovsdb_values.specs.Atoms.{atom_total, same_atom, id_in}
use Rattle.ovsdb_values.specs.Sets.{has_atom}
use Rattle.ovsdb_values.specs.Exact.{same_atom_exact}
use Rattle.vtep_schema.specs.declared.Table.{Table}
use Rattle.vtep_schema.specs.declared.Table.TheVariants.{Global, PhysicalPort, PhysicalSwitch}
use Rattle.vtep_schema.specs.declared.Column.{Column}
use Rattle.vtep_schema.specs.declared.Column.TheVariants.{SwitchPorts}
use Rattle.vtep_schema.specs.declared.rules.Domain.{Domain}
use Rattle.vtep_schema.specs.declared.rules.Domain.TheVariants as domain
use Rattle.vtep_schema.specs.declared.rules.ColumnRule.{ColumnRule}
use Rattle.vtep_schema.specs.Tables.{table_rule, unique_keys, same_table, same_column, column_rule, columns_of, belongs}
use Rattle.vtep_rows.specs.Row.{Contents, is_row, allowed, value_at, with_value, default_row, reference, reference_list, pair_references, references_in, references}
use Rattle.vtep_rows.specs.Rows.{Key, key_cmp, same_key, Rows, IsRows, row_at, rows_of, ids_of, replaced, removed, has_key, collected}
use Rattle.vtep_rows.specs.Sound.{Sound, agree}
use Rattle.vtep_rows.specs.Orders.{key_total}
use Rattle.vtep_rows.proofs.Entries.{both, all_at, same_some}
use Rattle.vtep_rows.proofs.Kept.{its_contents, its_table, still_put, still_removed, given_there, same_table_exact}
use Rattle.vtep_rows.proofs.RowLaws.{same_column_exact, still_row}
use Rattle.vtep_rows.proofs.Restored.{tied, itself}
use Rattle.vtep_rows.proofs.IndexLaws.{put_there}
use Rattle.vtep_rows.proofs.Collected.{still_collected}
use Rattle.vtep_gateway.specs.Ports.{switch_id, switch_of, changed_ports, changed_switch, Takes, without_port}
use Rattle.vtep_gateway.specs.declared.ports.Change.TheVariants.{Leaves}
use Rattle.vtep_gateway.specs.Settled.{switch_with, IsSettled}
use Rattle.forward_program.proofs.Ascending.{has_id, same_ids, Ascending, some_picked, in_picked, has_row, ids_ascend, fewer}
use Rattle.vtep_gateway.proofs.Collecting.{port_key, switch_key, ports_pass, alone, there_alone, no_more, settled_after, was_there, was_in, still_in, still_there, twice_collected, stays_named, switches_stay, ports_stay}
use Rattle.vtep_gateway.proofs.PortJoins.{ports_allowed}

-- ---- only rows of Physical_Switch name ports

abbrev other : Key → Bool
other k = not (same_table k.0 PhysicalPort)

abbrev domain_other : Domain → Bool
domain_other (domain.Row u) = not (same_table u PhysicalPort)
domain_other _ = true

abbrev value_other : Option Domain → Bool
value_other None = true
value_other (Some d) = domain_other d

abbrev rule_other : Column → Bool
rule_other c = domain_other (column_rule c).key && value_other (column_rule c).value

tables_other : (t : Table) → (same_table t PhysicalSwitch || list_all rule_other (columns_of t)) ≡ true
tables_other Global = refl
tables_other _ = refl

reference_other : (d : Domain) (a : Atom) → domain_other d ≡ true → list_all other (reference_list (reference d a)) ≡ true
reference_other (domain.Row u) (Id i) h = both (other (u, i)) true h refl
reference_other _ _ h = refl

and_true : (b : Bool) → (b && true) ≡ b
and_true true = refl
and_true false = refl

some_first : (o : Option Key) (ks : List Key) → list_all other (cons_option o ks) ≡ (list_all other (reference_list o) && list_all other ks)
some_first None ks = refl
some_first (Some k) ks = ap (λ b. b && list_all other ks) (sym (and_true (other k)))

atoms_other : (d : Domain) (xs : List Atom) → domain_other d ≡ true → list_all other (filter_map (reference d) xs) ≡ true
atoms_other d [] h = refl
atoms_other d (a ∷ xs) h =
    some_first (reference d a) (filter_map (reference d) xs)
    ∙ both (list_all other (reference_list (reference d a))) _ (reference_other d a h) (atoms_other d xs h)

pair_other : (k : Domain) (v : Option Domain) (p : Atom × Atom) → domain_other k ≡ true → value_other v ≡ true → list_all other (pair_references k v p) ≡ true
pair_other k None p h g = reference_other k p.0 h
pair_other k (Some v) p h g =
    list_all-append other (reference_list (reference k p.0)) (reference_list (reference v p.1))
    ∙ both (list_all other (reference_list (reference k p.0))) _ (reference_other k p.0 h) (reference_other v p.1 g)

pairs_other : (k : Domain) (v : Option Domain) (ps : List (Atom × Atom)) → domain_other k ≡ true → value_other v ≡ true → list_all other (flat_map (pair_references k v) ps) ≡ true
pairs_other k v [] h g = refl
pairs_other k v (p ∷ ps) h g =
    list_all-append other (pair_references k v p) (flat_map (pair_references k v) ps)
    ∙ both (list_all other (pair_references k v p)) _ (pair_other k v p h g) (pairs_other k v ps h g)

value_others : (r : ColumnRule) (d : Datum) → domain_other r.key ≡ true → value_other r.value ≡ true → list_all other (references_in r d) ≡ true
value_others r (datum.Set xs) h g = atoms_other r.key xs h
value_others r (datum.Map ps) h g = pairs_other r.key r.value ps h g

values_other : (t : Table) (es : List (Column × Datum)) → same_table t PhysicalSwitch ≡ false → list_all (λ e. belongs e.0 t && allowed e.0 e.1) es ≡ true → list_all other (flat_map (λ e. references_in (column_rule e.0) e.1) es) ≡ true
values_other t [] apart h = refl
values_other t (e ∷ es) apart h =
    let columns : list_all rule_other (columns_of t) ≡ true = sym (ap (λ b. b || list_all rule_other (columns_of t)) apart) ∙ tables_other t in
    let here : rule_other e.0 ≡ true = all_at rule_other (same_column e.0) e.0 (λ x s. sym (same_column_exact e.0 x s)) (columns_of t) columns (first_so _ _ (first_so _ _ h)) in
    list_all-append other (references_in (column_rule e.0) e.1) (flat_map (λ f. references_in (column_rule f.0) f.1) es)
    ∙ both (list_all other (references_in (column_rule e.0) e.1)) _ (value_others (column_rule e.0) e.1 (first_so _ _ here) (second_so _ _ here)) (values_other t es apart (second_so _ _ h))

names_others : (row : Contents) → is_row row ≡ true → same_table row.table PhysicalSwitch ≡ false → list_all other (references row) ≡ true
names_others row is apart = values_other row.table row.values.list apart (second_so _ _ is)

-- each that is listed passes, where the tests of it and of all say so
all_as : (p q s : Key → Bool) (ks : List Key) → ((x : Key) → p x ≡ true → q x ≡ true → s x ≡ true) → list_all p ks ≡ true → list_all q ks ≡ true → list_all s ks ≡ true
all_as p q s [] so h g = refl
all_as p q s (k ∷ ks) so h g = both (s k) _ (so k (first_so (p k) _ h) (first_so (q k) _ g)) (all_as p q s ks so (second_so (p k) _ h) (second_so (q k) _ g))

all_listed : (p s : Key → Bool) (ks : List Key) → ((x : Key) → has_key ks x ≡ true → p x ≡ true → s x ≡ true) → list_all p ks ≡ true → list_all s ks ≡ true
all_listed p s [] so h = refl
all_listed p s (k ∷ ks) so h =
    both (s k) _ (so k (ap (λ b. b || has_key ks k) (itself k)) (first_so (p k) _ h)) (all_listed p s ks (λ x g. so x (or_right (same_key x k) (has_key ks x) g)) (second_so (p k) _ h))
  where
    or_right : (a b : Bool) → b ≡ true → (a || b) ≡ true
    or_right true b h = refl
    or_right false b h = h

-- ---- the set of ports without one

same_id : (i j : ℕ) → (same_atom (Id i) (Id j) || false) ≡ (i == j)
same_id i j = by (i == j) refl
  where
    by : (b : Bool) → (i == j) ≡ b → (same_atom (Id i) (Id j) || false) ≡ b
    by true e =
        let same : i ≡ j = grind (arith, nat_tests, e) in
        ap (λ b. b || false) (ap (λ n. same_atom (Id i) (Id n)) (sym same) ∙ (eq_by_cmp_equiv atom_total).refl (Id i))
    by false e = off (same_atom (Id i) (Id j)) refl
      where
        off : (b : Bool) → same_atom (Id i) (Id j) ≡ b → (same_atom (Id i) (Id j) || false) ≡ false
        off true h =
            let same : i ≡ j = ap id_in ((same_atom_exact (Id i) (Id j)).0 h) in
            let on : (i == j) ≡ true = grind (arith, nat_tests, same) in
            absurd (true≢false (sym on ∙ e))
        off false h = ap (λ b. b || false) h

abbrev but : ℕ → ℕ → Bool
but id i = not (i == id)

without_one : (id : ℕ) (ids : List ℕ) → filter (λ x. not (has_atom (Id id ∷ []) x)) (map Id ids) ≡ map Id (filter (but id) ids)
without_one id [] = refl
without_one id (i ∷ ids) =
    ap (λ b. cond (not b) (Id i ∷ filter (λ x. not (has_atom (Id id ∷ []) x)) (map Id ids)) (filter (λ x. not (has_atom (Id id ∷ []) x)) (map Id ids))) (same_id i id)
    ∙ elim (i == id) as (λ b. cond (not b) (Id i ∷ filter (λ x. not (has_atom (Id id ∷ []) x)) (map Id ids)) (filter (λ x. not (has_atom (Id id ∷ []) x)) (map Id ids)) ≡ map Id (cond (not b) (i ∷ filter (but id) ids) (filter (but id) ids))) [
      | true ↦ without_one id ids
      | false ↦ ap (λ xs. Id i ∷ xs) (without_one id ids)
    ]

shorter : (p : ℕ → Bool) (ids : List ℕ) (most : ℕ) → Ascending ids → length ids ≤ most → length (filter p ids) ≤ most
shorter p ids most up few =
    let fewer_ids : length (filter p ids) ≤ length ids = fewer (filter p ids) ids (some_picked p ids up) up (λ i h. first_so (has_id ids i) (p i) (sym (in_picked p ids i) ∙ h)) in
    omega (arith, fewer_ids, few)

module _ (r : Rows) (id : ℕ) (settled : IsSettled r) where
  abbrev ids : List ℕ
  ids = ids_of PhysicalPort r

  abbrev pub left : List ℕ
  left = filter (but id) ids

  abbrev switch : Contents
  switch = switch_with settled.name settled.ip left

  abbrev pub changed : Rows
  changed = replaced (removed r (port_key id)) (switch_key r) switch

  abbrev after : Rows
  after = collected changed

  pub up : Ascending left
  up = some_picked (but id) ids (ids_ascend PhysicalPort r)

  few : length left ≤ 64
  few = shorter (but id) ids 64 (ids_ascend PhysicalPort r) (let most = settled.sound.few PhysicalPort in let count = length-map (rows_of PhysicalPort r) (λ row. row.0) in omega (arith, most, count))

  switch_there : row_at (removed r (port_key id)) (switch_key r) ≡ Some (switch_with settled.name settled.ip ids)
  switch_there = maps.get-remove key_total r.rows (port_key id) (switch_key r) ∙ settled.switch

  pub port_left : without_port r id ≡ changed
  port_left =
      ap (λ o. replaced (removed r (port_key id)) (switch_key r) (changed_switch Leaves id (unwrap_or o (default_row PhysicalSwitch)))) switch_there
      ∙ ap (λ atoms. replaced (removed r (port_key id)) (switch_key r) (with_value (switch_with settled.name settled.ip ids) SwitchPorts (datum.Set atoms))) (without_one id ids)

  left_ports : changed_ports Leaves id (value_at (switch_of (removed r (port_key id))) SwitchPorts) ≡ datum.Set (map Id left)
  left_ports =
      ap (λ o. changed_ports Leaves id (value_at (unwrap_or o (default_row PhysicalSwitch)) SwitchPorts)) switch_there
      ∙ ap (λ atoms. datum.Set atoms) (without_one id ids)

  pub leave_takes : Takes Leaves id (removed r (port_key id))
  leave_takes = record {
    only =
        same_ids (ids_of PhysicalSwitch (removed r (port_key id))) (ids_of PhysicalSwitch r) (ids_ascend PhysicalSwitch (removed r (port_key id))) (ids_ascend PhysicalSwitch r)
        (λ i. has_row PhysicalSwitch (removed r (port_key id)) i ∙ ap is_some (maps.get-remove key_total r.rows (port_key id) (PhysicalSwitch, i)) ∙ sym (has_row PhysicalSwitch r i))
        ∙ settled.only;
    there = ap is_some switch_there;
    fits = ap (allowed SwitchPorts) left_ports ∙ ports_allowed left few;
  }

  rows_removed : IsRows (removed r (port_key id))
  rows_removed = still_removed r (port_key id) settled.rows

  pub rows_changed : IsRows changed
  rows_changed =
      still_put (removed r (port_key id)) (switch_key r) switch rows_removed (given_there (removed r (port_key id)) (switch_key r) rows_removed (ap is_some switch_there)) refl
      (still_row (switch_with settled.name settled.ip ids) SwitchPorts (datum.Set (map Id left)) (its_contents r PhysicalSwitch (switch_id r) _ settled.rows settled.switch) refl (ports_allowed left few))

  pub at_switch : row_at changed (switch_key r) ≡ Some switch
  at_switch = put_there (removed r (port_key id)).rows (switch_key r) switch

  but_switch : (q : Key) → eq_by_cmp key_cmp q (switch_key r) ≡ false → row_at changed q ≡ row_at (removed r (port_key id)) q
  but_switch q apart = maps.get-insert key_total (removed r (port_key id)).rows (switch_key r) switch q ∙ ap (λ b. cond b (Some switch) (row_at (removed r (port_key id)) q)) apart

  elsewhere : (q : Key) → eq_by_cmp key_cmp q (switch_key r) ≡ false → eq_by_cmp key_cmp q (port_key id) ≡ false → row_at changed q ≡ row_at r q
  elsewhere q apart kept = but_switch q apart ∙ maps.get-remove key_total r.rows (port_key id) q ∙ ap (λ b. cond b None (row_at r q)) kept

  -- another row was there, as it is
  was_row : (q : Key) (row : Contents) → eq_by_cmp key_cmp q (switch_key r) ≡ false → row_at changed q ≡ Some row → row_at r q ≡ Some row
  was_row q row apart is = by (eq_by_cmp key_cmp q (port_key id)) refl
    where
      by : (b : Bool) → eq_by_cmp key_cmp q (port_key id) ≡ b → row_at r q ≡ Some row
      by true e =
          let clash : ◌≡◌ {A = Option Contents} None (Some row) =
          sym (but_switch q apart ∙ maps.get-remove key_total r.rows (port_key id) q ∙ ap (λ b. cond b None (row_at r q)) e) ∙ is in absurd (cc)
      by false e = sym (elsewhere q apart e) ∙ is

  was : (q : Key) → maps.has changed.rows q ≡ true → maps.has r.rows q ≡ true
  was q h = by (eq_by_cmp key_cmp q (switch_key r)) refl (row_at changed q) refl h
    where
      by : (b : Bool) → eq_by_cmp key_cmp q (switch_key r) ≡ b → (o : Option Contents) → row_at changed q ≡ o → is_some o ≡ true → maps.has r.rows q ≡ true
      by true e o is g = ap (maps.has r.rows) (tied q (switch_key r) e) ∙ there_alone r settled
      by false e None is g = absurd (true≢false (sym g))
      by false e (Some row) is g = ap is_some (was_row q row e is)

  -- what was there and is no port is still there
  still : (q : Key) → maps.has r.rows q ≡ true → eq_by_cmp key_cmp q (port_key id) ≡ false → maps.has changed.rows q ≡ true
  still q h kept = by (eq_by_cmp key_cmp q (switch_key r)) refl
    where
      by : (b : Bool) → eq_by_cmp key_cmp q (switch_key r) ≡ b → maps.has changed.rows q ≡ true
      by true e = ap (maps.has changed.rows) (tied q (switch_key r) e) ∙ ap is_some at_switch
      by false e = ap is_some (elsewhere q e kept) ∙ h

  not_port : (q : Key) → other q ≡ true → eq_by_cmp key_cmp q (port_key id) ≡ false
  not_port q h = by (eq_by_cmp key_cmp q (port_key id)) refl
    where
      by : (b : Bool) → eq_by_cmp key_cmp q (port_key id) ≡ b → eq_by_cmp key_cmp q (port_key id) ≡ false
      by true e = absurd (true≢false (sym h ∙ ap other (tied q (port_key id) e)))
      by false e = e

  pub own : (i : ℕ) → has_id left i ≡ maps.has changed.rows (port_key i)
  own i = in_picked (but id) ids i ∙ ap (λ b. b && not (i == id)) (has_row PhysicalPort r i) ∙ by (i == id) refl
    where
      off : (b : Bool) → (b && false) ≡ false
      off true = refl
      off false = refl

      by : (b : Bool) → (i == id) ≡ b → (maps.has r.rows (port_key i) && not (i == id)) ≡ maps.has changed.rows (port_key i)
      by true e =
          let same : i ≡ id = grind (arith, nat_tests, e) in
          ap (λ b. maps.has r.rows (port_key i) && not b) e ∙ off _
          ∙ sym (ap is_some (but_switch (port_key i) refl ∙ maps.get-remove key_total r.rows (port_key id) (port_key i)
          ∙ ap (λ b. cond b None (row_at r (port_key i))) (ap (λ n. eq_by_cmp key_cmp (port_key i) (port_key n)) (sym same) ∙ itself (port_key i))))
      by false e =
          ap (λ b. maps.has r.rows (port_key i) && not b) e ∙ and_true _ ∙ sym (ap is_some (elsewhere (port_key i) refl (apart (eq_by_cmp key_cmp (port_key i) (port_key id)) refl)))
        where
          apart : (b : Bool) → eq_by_cmp key_cmp (port_key i) (port_key id) ≡ b → eq_by_cmp key_cmp (port_key i) (port_key id) ≡ false
          apart true tie =
              let same : i ≡ id = ap (λ (k : Key). k.1) (tied (port_key i) (port_key id) tie) in
              let on : (i == id) ≡ true = grind (arith, nat_tests, same) in
              absurd (true≢false (sym on ∙ e))
          apart false tie = tie

  pub switches : (i : ℕ) → maps.has changed.rows (PhysicalSwitch, i) ≡ maps.has r.rows (PhysicalSwitch, i)
  switches i = one (maps.has changed.rows (PhysicalSwitch, i)) (maps.has r.rows (PhysicalSwitch, i)) (was (PhysicalSwitch, i)) (λ h. still (PhysicalSwitch, i) h refl)
    where
      one : (a b : Bool) → (a ≡ true → b ≡ true) → (b ≡ true → a ≡ true) → a ≡ b
      one true b f g = sym (f refl)
      one false true f g = g refl
      one false false f g = refl

  -- ---- what is left is sound

  -- what a row names is there before the collection
  named_in : (k : Key) (row : Contents) → row_at changed k ≡ Some row → list_all (maps.has changed.rows) (references row) ≡ true
  named_in k row is = by (eq_by_cmp key_cmp k (switch_key r)) refl
    where
      by : (b : Bool) → eq_by_cmp key_cmp k (switch_key r) ≡ b → list_all (maps.has changed.rows) (references row) ≡ true
      by true e =
          ap (λ x. list_all (maps.has changed.rows) (references x)) (same_some row switch (sym is ∙ ap (row_at changed) (tied k (switch_key r) e) ∙ at_switch))
          ∙ ports_pass (maps.has changed.rows) settled.name settled.ip left (λ i h. sym (own i) ∙ h)
      by false e =
          let old : row_at r k ≡ Some row = was_row k row e is in
          all_as (maps.has r.rows) other (maps.has changed.rows) (references row) (λ q h g. still q h (not_port q g)) (settled.sound.there k row old)
          (names_others row (its_contents r k.0 k.1 row settled.rows old) (apart old (same_table row.table PhysicalSwitch) refl))
        where
          apart : row_at r k ≡ Some row → (b : Bool) → same_table row.table PhysicalSwitch ≡ b → same_table row.table PhysicalSwitch ≡ false
          apart old true g =
              let table : k.0 ≡ PhysicalSwitch = sym (its_table r k.0 k.1 row settled.rows old) ∙ same_table_exact row.table PhysicalSwitch g in
              let number : k.1 ≡ switch_id r = alone r settled k.1 (ap (λ t. maps.has r.rows (t, k.1)) (sym table) ∙ ap is_some old) in
              let same : k ≡ switch_key r = (λ i. (table i, number i)) in
              absurd (true≢false (sym (ap (λ q. eq_by_cmp key_cmp q (switch_key r)) same ∙ itself (switch_key r)) ∙ e))
          apart old false g = g

  all_there : (k : Key) (row : Contents) → row_at after k ≡ Some row → list_all (maps.has after.rows) (references row) ≡ true
  all_there k row is =
      all_listed (maps.has changed.rows) (maps.has after.rows) (references row) (λ q named h. still_in changed q h (stays_named after k q row is named)) (named_in k row (was_there changed k row is))

  few_rows : (t : Table) → length (rows_of t after) ≤ (table_rule t).most
  few_rows t = no_more t r after (table_rule t).most (settled.sound.few t) (λ i h. was (t, i) (was_in changed (t, i) h))

  one_each : (t : Table) (i j : ℕ) (a b : Contents) → row_at after (t, i) ≡ Some a → row_at after (t, j) ≡ Some b → list_any (λ cs. agree cs a b) (unique_keys t) ≡ true → i ≡ j
  one_each t i j a b is_a is_b shared = by (same_table t PhysicalSwitch) refl
    where
      there : (n : ℕ) (row : Contents) → row_at after (t, n) ≡ Some row → maps.has r.rows (t, n) ≡ true
      there n row is = was (t, n) (ap is_some (was_there changed (t, n) row is))

      by : (c : Bool) → same_table t PhysicalSwitch ≡ c → i ≡ j
      by true e =
          let table : t ≡ PhysicalSwitch = same_table_exact t PhysicalSwitch e in
          alone r settled i (ap (λ u. maps.has r.rows (u, i)) (sym table) ∙ there i a is_a) ∙ sym (alone r settled j (ap (λ u. maps.has r.rows (u, j)) (sym table) ∙ there j b is_b))
      by false e = settled.sound.unique t i j a b (was_row (t, i) a (apart i (eq_by_cmp key_cmp (t, i) (switch_key r)) refl) (was_there changed (t, i) a is_a)) (was_row (t, j) b (apart j (eq_by_cmp key_cmp (t, j) (switch_key r)) refl) (was_there changed (t, j) b is_b)) shared
        where
          apart : (n : ℕ) (c : Bool) → eq_by_cmp key_cmp (t, n) (switch_key r) ≡ c → eq_by_cmp key_cmp (t, n) (switch_key r) ≡ false
          apart n true tie = absurd (true≢false (sym (ap (λ u. same_table u PhysicalSwitch) (ap (λ (k : Key). k.0) (tied (t, n) (switch_key r) tie))) ∙ e))
          apart n false tie = tie

  sound : Sound after
  sound = record { few = few_rows; there = all_there; unique = one_each }

  left_there : row_at after (switch_key r) ≡ Some switch
  left_there = still_there changed (switch_key r) (switches_stay changed (switch_id r) ∙ ap is_some at_switch) ∙ at_switch

  after_settled : IsSettled after
  after_settled =
      settled_after r after left settled (still_collected changed rows_changed) sound (twice_collected changed rows_changed) refl
      (λ i. switches_stay changed i ∙ switches i) left_there up (ports_stay changed (switch_id r) settled.name settled.ip left at_switch own)

  pub leave_settled : IsSettled (collected (without_port r id))
  leave_settled = subst (λ s. IsSettled (collected s)) (sym port_left) after_settled
