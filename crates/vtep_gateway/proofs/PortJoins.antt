-- One more port leaves settled rows, of which none is taken away.
use Rattle.std.proofs.Common.{◌≡◌, ℕ, ◌%◌, ◌^◌, ◌<◌, ◌≤◌, ◌==◌, Bool, true, false, cond, not, ◌&&◌, ◌||◌, nat_le, List, [], ◌∷◌, ◌++◌, map, length, is_some, Option, Some, None, refl, sym, ap, subst, ◌∙◌, true≢false, arith, length-append, append-nil, append_assoc, inl, inr, ◌⊎◌}
use Rattle.std.specs.Prelude.{if◌then◌else◌}
use Rattle.std.proofs.lemmas.Bool.Decides.{nat_tests}
use Rattle.std.proofs.lemmas.List.{length-map}
use Rattle.std.specs.List.{filter, list_all, list_any}
use Rattle.std.specs.Option.{unwrap_or}
use Rattle.std.specs.Ordering.{eq_by_cmp, nat_cmp, ordering_then, match_ordering}
use Rattle.std.specs.declared.cmp.Ordering.{Ordering}
use Rattle.std.specs.declared.cmp.Ordering.TheVariants.{Less, Equal, Greater}
use Rattle.std.specs.Cmp.{eq_by_cmp_equiv, ranked, first_so, second_so}
use Rattle.std.specs.BTreeSet.{insert_key}
use Rattle.vtep_base.specs.Reading.{Bytes}
use Rattle.vtep_base.specs.Maps as maps
use Rattle.vtep_base.specs.Maps.{Map}
use Rattle.ovsdb_values.specs.declared.atoms.Atom.{Atom}
use Rattle.ovsdb_values.specs.declared.atoms.Atom.TheVariants.{Text, Id}
use Rattle.ovsdb_values.specs.declared.datums.Datum.TheVariants as datum
use Rattle.ovsdb_values.specs.Atoms.{atom_cmp, atom_total, same_atom}
use Rattle.ovsdb_values.specs.Sets.{with_atoms, set_of}
use Rattle.ovsdb_values.specs.Exact.{same_atoms_exact}
use Rattle.vtep_schema.specs.declared.Table.{Table}
use Rattle.vtep_schema.specs.declared.Table.TheVariants.{PhysicalPort, PhysicalSwitch}
use Rattle.vtep_schema.specs.declared.Column.TheVariants.{PortName, SwitchPorts}
use Rattle.vtep_schema.specs.declared.rules.Domain.TheVariants as domain
use Rattle.vtep_schema.specs.Tables.{table_rule, unique_keys, same_table}
use Rattle.vtep_rows.specs.Row.{Contents, is_row, allowed, value_at, with_value, default_row, references, atoms_at, first, atom_allowed}
use Rattle.vtep_rows.specs.Rows.{Key, key_cmp, Rows, IsRows, row_at, row_id, rows_of, ids_of, next_id, inserted, replaced, last_number, is_given, same_key, names, has_key, is_named, stays, collected}
use Rattle.vtep_rows.specs.Keyed.{holds_only}
use Rattle.vtep_rows.specs.Sound.{Sound, agree, hold_same}
use Rattle.vtep_rows.specs.Orders.{key_total}
use Rattle.vtep_rows.proofs.Entries.{both, all_so, has-insert, same_some}
use Rattle.vtep_rows.proofs.Kept.{its_contents, is_fresh, still_inserted, still_put, given_there, same_table_exact, so_le}
use Rattle.vtep_rows.proofs.RowLaws.{still_row}
use Rattle.vtep_rows.proofs.Restored.{tied}
use Rattle.vtep_rows.proofs.IndexLaws.{put_there}
use Rattle.vtep_rows.proofs.SoundLaws.{row_passes, not_on}
use Rattle.vtep_rows.proofs.TwinLaws.{one_answer, entry_so}
use Rattle.vtep_gateway.specs.Ports.{is_named as has_name, port_named, is_full, port_refusal, switch_id, switch_of, changed_ports, changed_switch, Takes, port_row, with_port}
use Rattle.vtep_gateway.specs.declared.ports.Change.TheVariants.{Joins}
use Rattle.vtep_gateway.specs.declared.EventRefused.TheVariants.{Repeated, Ports}
use Rattle.vtep_gateway.specs.Settled.{switch_with, IsSettled}
use Rattle.forward_program.proofs.Ascending.{has_id, same_ids, Ascending, in_middle, one_behind, in_end, has_row, ids_ascend}
use Rattle.vtep_gateway.proofs.Collecting.{port_key, switch_key, names_port, ports_pass, alone, there_alone, no_more, no_more_than, settled_after, all_stay, it_stays, stays_named, switch_references}

-- ---- ascending identifiers are a set

Under : List ℕ → ℕ → Type 0
Under [] n = Unit {0}
Under (x ∷ xs) n = (x < n) × Under xs n

greater : (a b : ℕ) → b < a → nat_cmp a b ≡ Greater
greater a b lt = by (nat_cmp a b) refl
  where
    by : (o : Ordering) → nat_cmp a b ≡ o → nat_cmp a b ≡ Greater
    by Less e = let low : a < b = ranked a b Less (sym e) in absurd (omega (arith, low, lt))
    by Equal e = let same : a ≡ b = ranked a b Equal (sym e) in absurd (omega (arith, same, lt))
    by Greater e = e

placed : (xs : List ℕ) (n : ℕ) → Under xs n → insert_key atom_cmp (map Id xs) (Id n) ≡ map Id (xs ++ n ∷ [])
unfolding Under
placed [] n h = refl
placed (x ∷ xs) n h =
    ap (λ o. match_ordering (ordering_then o Equal) (Id n ∷ map Id (x ∷ xs)) (map Id (x ∷ xs)) (Id x ∷ insert_key atom_cmp (map Id xs) (Id n))) (greater n x h.0)
    ∙ ap (λ ys. Id x ∷ ys) (placed xs n h.1)

under : (xs : List ℕ) (n : ℕ) (ys : List ℕ) → Ascending (xs ++ n ∷ ys) → Under xs n
unfolding Under
under [] n ys h = tt
under (x ∷ xs) n ys h = (in_middle x xs n ys h.0, under xs n ys h.1)

in_order : (xs ys : List ℕ) → Ascending (xs ++ ys) → with_atoms (map Id xs) (map Id ys) ≡ map Id (xs ++ ys)
in_order xs [] h = ap (map Id) (sym (append-nil xs))
in_order xs (y ∷ ys) h =
    let joined : (xs ++ y ∷ []) ++ ys ≡ xs ++ y ∷ ys = append_assoc xs (y ∷ []) ys in
    ap (λ l. with_atoms l (map Id ys)) (placed xs y (under xs y ys h))
    ∙ in_order (xs ++ y ∷ []) ys (subst Ascending (sym joined) h) ∙ ap (map Id) joined

end_of : (xs : List ℕ) (n : ℕ) → map Id xs ++ Id n ∷ [] ≡ map Id (xs ++ n ∷ [])
end_of [] n = refl
end_of (x ∷ xs) n = ap (λ ys. Id x ∷ ys) (end_of xs n)

-- ---- rows of ports and of the switch

pub port_is_row : (name : Bytes) → length name ≤ 64 → is_row (port_row name) ≡ true
port_is_row name short =
    let is_short : nat_le (length name) 255 ≡ true = grind (arith, nat_tests, short) in
    rw is_short refl

ids_allowed : (ids : List ℕ) → list_all (atom_allowed (domain.Row PhysicalPort)) (map Id ids) ≡ true
ids_allowed [] = refl
ids_allowed (i ∷ ids) = ids_allowed ids

pub ports_allowed : (ids : List ℕ) → length ids ≤ 64 → allowed SwitchPorts (datum.Set (map Id ids)) ≡ true
ports_allowed ids few =
    let short : nat_le (length (map Id ids)) 64 ≡ true = (let count = length-map ids Id in grind (arith, nat_tests, few, count)) in
    let some : nat_le 0 (length (map Id ids)) ≡ true = grind (arith, nat_tests) in
    both _ _ (both (nat_le 0 (length (map Id ids))) (nat_le (length (map Id ids)) 64) some short) (ids_allowed ids)

more_keys : (ids : List ℕ) (n : ℕ) (q : Key) → has_key (map port_key ids) q ≡ true → has_key (map port_key (ids ++ n ∷ [])) q ≡ true
more_keys [] n q h = absurd (true≢false (sym h))
more_keys (i ∷ ids) n q h =
    elim (same_key q (port_key i)) as (λ b. (b || has_key (map port_key ids) q) ≡ true → (b || has_key (map port_key (ids ++ n ∷ [])) q) ≡ true) [ true ↦ λ _. refl | false ↦ λ g. more_keys ids n q g ] h

none_picked : {A B : Type 0} (f : A → B) (p : A → Bool) (xs : List A) → is_some (first (map f (filter p xs))) ≡ false → list_all (λ x. not (p x)) xs ≡ true
none_picked f p [] e = refl
none_picked f p (x ∷ xs) e =
    elim (p x) as (λ b. is_some (first (map f (cond b (x ∷ filter p xs) (filter p xs)))) ≡ false → (not b && list_all (λ y. not (p y)) xs) ≡ true) [
      | true ↦ λ g. absurd (true≢false g)
      | false ↦ λ g. none_picked f p xs g
    ] e

held : (xs : List Atom) (a : Atom) → hold_same xs (a ∷ []) ≡ true → xs ≡ a ∷ []
held [] a h = absurd (true≢false (sym h))
held (x ∷ xs) a h = (same_atoms_exact (x ∷ xs) (a ∷ [])).0 h

holder : (a : Atom) (ys : List Atom) → hold_same (a ∷ []) ys ≡ true → ys ≡ a ∷ []
holder a ys h = sym ((same_atoms_exact (a ∷ []) ys).0 h)

in_or : (a b : Bool) → (a || b) ≡ true → (a ≡ true) ⊎ (b ≡ true)
in_or true b h = inl refl
in_or false b h = inr h

by_or : {C : Type 0} (a b : Bool) → (a || b) ≡ true → (a ≡ true → C) → (b ≡ true → C) → C
by_or true b h f g = f refl
by_or false b h f g = g h

or_left : (a b : Bool) → a ≡ true → (a || b) ≡ true
or_left a b h = ap (λ x. x || b) h

or_right : (a b : Bool) → b ≡ true → (a || b) ≡ true
or_right true b h = refl
or_right false b h = h

equal : (n : ℕ) → (n == n) ≡ true
equal n = grind (arith, nat_tests)

same_number : (a b : ℕ) → (a == b) ≡ true → a ≡ b
same_number a b e = grind (arith, nat_tests, e)

picked_none : (b c d : Bool) → (if b then Some Repeated else if c || d then Some Ports else None) ≡ None → (b ≡ false) × (c ≡ false) × (d ≡ false)
picked_none true c d e = absurd (true≢false (ap is_some e))
picked_none false true d e = absurd (true≢false (ap is_some e))
picked_none false false true e = absurd (true≢false (ap is_some e))
picked_none false false false e = (refl, refl, refl)

module _ (r : Rows) (name : Bytes) (settled : IsSettled r) (short : length name ≤ 64) (free : port_refusal r name ≡ None) where
  abbrev ids : List ℕ
  ids = ids_of PhysicalPort r

  abbrev new : ℕ
  new = next_id r

  abbrev joined : List ℕ
  joined = ids ++ new ∷ []

  abbrev port : Contents
  port = port_row name

  abbrev switch : Contents
  switch = switch_with settled.name settled.ip joined

  abbrev after : Rows
  after = replaced (inserted r port) (switch_key r) switch

  refused : (is_some (port_named r name) ≡ false) × (is_full r ≡ false) × ((r.counter == last_number) ≡ false)
  refused = picked_none (is_some (port_named r name)) (is_full r) (r.counter == last_number) free

  room : length ids < 64
  room = let off : nat_le 64 (length ids) ≡ false = refused.1 in grind (arith, nat_tests, off)

  unspent : r.counter < last_number
  unspent =
      let off : (r.counter == last_number) ≡ false = refused.2 in
      let count : r.counter ≤ last_number = settled.rows.count in
      grind (arith, nat_tests, off, count)

  below_new : (i : ℕ) → has_id ids i ≡ true → i < new
  below_new i h =
      let given : is_given r i ≡ true = given_there r (port_key i) settled.rows (sym (has_row PhysicalPort r i) ∙ h) in
      let same : i ≡ row_id r.made (i % 2 ^ 62) = same_number i (row_id r.made (i % 2 ^ 62)) (second_so (nat_le 1 (i % 2 ^ 62) && nat_le (i % 2 ^ 62) r.counter) (i == row_id r.made (i % 2 ^ 62)) given) in
      let most : i % 2 ^ 62 ≤ r.counter = so_le (i % 2 ^ 62) r.counter (second_so (nat_le 1 (i % 2 ^ 62)) (nat_le (i % 2 ^ 62) r.counter) (first_so (nat_le 1 (i % 2 ^ 62) && nat_le (i % 2 ^ 62) r.counter) (i == row_id r.made (i % 2 ^ 62)) given)) in
      let left : r.counter < last_number = unspent in
      omega (arith, same, most, left)

  up : Ascending joined
  up = one_behind ids new (ids_ascend PhysicalPort r) below_new

  few : length joined ≤ 64
  few = let count : length ids < 64 = room in omega (arith, count, length-append ids (new ∷ []))

  -- ---- the rows with one more port

  pub port_joined : with_port r name ≡ after
  port_joined =
      ap (λ o. replaced (inserted r port) (switch_key r) (changed_switch Joins new (unwrap_or o (default_row PhysicalSwitch)))) (maps.get-insert key_total r.rows (port_key new) port (switch_key r) ∙ settled.switch)
      ∙ ap (λ atoms. replaced (inserted r port) (switch_key r) (with_value (switch_with settled.name settled.ip ids) SwitchPorts (datum.Set atoms))) (ap set_of (end_of ids new) ∙ in_order [] joined up)

  switch_there : row_at (inserted r port) (switch_key r) ≡ Some (switch_with settled.name settled.ip ids)
  switch_there = maps.get-insert key_total r.rows (port_key new) port (switch_key r) ∙ settled.switch

  new_ports : changed_ports Joins new (value_at (switch_of (inserted r port)) SwitchPorts) ≡ datum.Set (map Id joined)
  new_ports =
      ap (λ o. changed_ports Joins new (value_at (unwrap_or o (default_row PhysicalSwitch)) SwitchPorts)) switch_there
      ∙ ap (λ atoms. datum.Set atoms) (ap set_of (end_of ids new) ∙ in_order [] joined up)

  pub join_takes : Takes Joins new (inserted r port)
  join_takes = record {
    only =
        same_ids (ids_of PhysicalSwitch (inserted r port)) (ids_of PhysicalSwitch r) (ids_ascend PhysicalSwitch (inserted r port)) (ids_ascend PhysicalSwitch r)
        (λ i. has_row PhysicalSwitch (inserted r port) i ∙ ap is_some (maps.get-insert key_total r.rows (port_key new) port (PhysicalSwitch, i)) ∙ sym (has_row PhysicalSwitch r i))
        ∙ settled.only;
    there = ap is_some switch_there;
    fits = ap (allowed SwitchPorts) new_ports ∙ ports_allowed joined few;
  }

  rows_inserted : IsRows (inserted r port)
  rows_inserted = still_inserted r port settled.rows unspent (port_is_row name short)

  rows_after : IsRows after
  rows_after =
      still_put (inserted r port) (switch_key r) switch rows_inserted (given_there (inserted r port) (switch_key r) rows_inserted (ap is_some switch_there)) refl
      (still_row (switch_with settled.name settled.ip ids) SwitchPorts (datum.Set (map Id joined)) (its_contents r PhysicalSwitch (switch_id r) _ settled.rows settled.switch) refl (ports_allowed joined few))

  pub at_switch : row_at after (switch_key r) ≡ Some switch
  at_switch = put_there (inserted r port).rows (switch_key r) switch

  but_switch : (q : Key) → eq_by_cmp key_cmp q (switch_key r) ≡ false → row_at after q ≡ row_at (inserted r port) q
  but_switch q apart = maps.get-insert key_total (inserted r port).rows (switch_key r) switch q ∙ ap (λ b. cond b (Some switch) (row_at (inserted r port) q)) apart

  at_port : row_at after (port_key new) ≡ Some port
  at_port = but_switch (port_key new) refl ∙ put_there r.rows (port_key new) port

  elsewhere : (q : Key) → eq_by_cmp key_cmp q (switch_key r) ≡ false → eq_by_cmp key_cmp q (port_key new) ≡ false → row_at after q ≡ row_at r q
  elsewhere q apart other = but_switch q apart ∙ maps.get-insert key_total r.rows (port_key new) port q ∙ ap (λ b. cond b (Some port) (row_at r q)) other

  grows : (q : Key) → maps.has r.rows q ≡ true → maps.has after.rows q ≡ true
  grows q h = has-insert key_total (inserted r port).rows (switch_key r) switch q (has-insert key_total r.rows (port_key new) port q h)

  abbrev IsThere : Key → Contents → Type 0
  IsThere q row = ((q ≡ switch_key r) × (row ≡ switch)) ⊎ (((q ≡ port_key new) × (row ≡ port)) ⊎ (row_at r q ≡ Some row))

  is_there : (q : Key) (row : Contents) → row_at after q ≡ Some row → IsThere q row
  is_there q row is = by (eq_by_cmp key_cmp q (switch_key r)) refl (eq_by_cmp key_cmp q (port_key new)) refl
    where
      by : (b : Bool) → eq_by_cmp key_cmp q (switch_key r) ≡ b → (c : Bool) → eq_by_cmp key_cmp q (port_key new) ≡ c → IsThere q row
      by true e c f = inl (tied q (switch_key r) e, same_some row switch (sym is ∙ ap (row_at after) (tied q (switch_key r) e) ∙ at_switch))
      by false e true f = inr (inl (tied q (port_key new) f, same_some row port (sym is ∙ ap (row_at after) (tied q (port_key new) f) ∙ at_port)))
      by false e false f = inr (inr (sym (elsewhere q e f) ∙ is))

  -- what is there was there, or is the port
  was : (t : Table) (i : ℕ) → maps.has after.rows (t, i) ≡ true → (maps.has r.rows (t, i) ≡ true) ⊎ ((t ≡ PhysicalPort) × (i ≡ new))
  was t i h = by (eq_by_cmp key_cmp (t, i) (switch_key r)) refl (eq_by_cmp key_cmp (t, i) (port_key new)) refl
    where
      by : (b : Bool) → eq_by_cmp key_cmp (t, i) (switch_key r) ≡ b → (c : Bool) → eq_by_cmp key_cmp (t, i) (port_key new) ≡ c → (maps.has r.rows (t, i) ≡ true) ⊎ ((t ≡ PhysicalPort) × (i ≡ new))
      by true e c f = inl (ap (maps.has r.rows) (tied (t, i) (switch_key r) e) ∙ there_alone r settled)
      by false e true f = let same = tied (t, i) (port_key new) f in inr (ap (λ (k : Key). k.0) same, ap (λ (k : Key). k.1) same)
      by false e false f = inl (sym (ap is_some (elsewhere (t, i) e f)) ∙ h)

  own : (i : ℕ) → has_id joined i ≡ maps.has after.rows (port_key i)
  own i = one_answer (has_id joined i) (maps.has after.rows (port_key i)) inside outside
    where
      inside : has_id joined i ≡ true → maps.has after.rows (port_key i) ≡ true
      inside h =
          by_or (has_id ids i) (i == new) (sym (in_end ids new i) ∙ h) (λ old. grows (port_key i) (sym (has_row PhysicalPort r i) ∙ old))
          (λ e. ap (λ n. maps.has after.rows (port_key n)) (same_number i new e) ∙ ap is_some at_port)

      outside : maps.has after.rows (port_key i) ≡ true → has_id joined i ≡ true
      outside h = in_end ids new i ∙ by (was PhysicalPort i h)
        where
          by : (maps.has r.rows (port_key i) ≡ true) ⊎ ((PhysicalPort ≡ PhysicalPort) × (i ≡ new)) → (has_id ids i || (i == new)) ≡ true
          by (inl old) = or_left (has_id ids i) (i == new) (has_row PhysicalPort r i ∙ old)
          by (inr same) = or_right (has_id ids i) (i == new) (ap (λ n. n == new) same.1 ∙ equal new)

  switches : (i : ℕ) → maps.has after.rows (PhysicalSwitch, i) ≡ maps.has r.rows (PhysicalSwitch, i)
  switches i = one_answer _ _ (λ h. by (was PhysicalSwitch i h)) (grows (PhysicalSwitch, i))
    where
      by : (maps.has r.rows (PhysicalSwitch, i) ≡ true) ⊎ ((PhysicalSwitch ≡ PhysicalPort) × (i ≡ new)) → maps.has r.rows (PhysicalSwitch, i) ≡ true
      by (inl old) = old
      by (inr same) = let clash : PhysicalSwitch ≡ PhysicalPort = same.0 in absurd (cc)

  -- ---- they are sound

  few_rows : (t : Table) → length (rows_of t after) ≤ (table_rule t).most
  few_rows t = by (same_table t PhysicalPort) refl
    where
      by : (b : Bool) → same_table t PhysicalPort ≡ b → length (rows_of t after) ≤ (table_rule t).most
      by true e = subst (λ u. length (rows_of u after) ≤ (table_rule u).most) (sym (same_table_exact t PhysicalPort e)) (no_more_than PhysicalPort after joined 64 up few (λ i h. own i ∙ h))
      by false e = no_more t r after (table_rule t).most (settled.sound.few t) (λ i h. old i (was t i h))
        where
          old : (i : ℕ) → (maps.has r.rows (t, i) ≡ true) ⊎ ((t ≡ PhysicalPort) × (i ≡ new)) → maps.has r.rows (t, i) ≡ true
          old i (inl h) = h
          old i (inr same) = absurd (true≢false (sym (ap (λ u. same_table u PhysicalPort) same.0) ∙ e))

  all_there : (k : Key) (row : Contents) → row_at after k ≡ Some row → list_all (maps.has after.rows) (references row) ≡ true
  all_there k row is = by (is_there k row is)
    where
      by : IsThere k row → list_all (maps.has after.rows) (references row) ≡ true
      by (inl same) = ap (λ x. list_all (maps.has after.rows) (references x)) same.1 ∙ ports_pass (maps.has after.rows) settled.name settled.ip joined (λ i h. sym (own i) ∙ h)
      by (inr (inl same)) = ap (λ x. list_all (maps.has after.rows) (references x)) same.1
      by (inr (inr old)) = all_so (maps.has r.rows) (maps.has after.rows) grows (references row) (settled.sound.there k row old)

  -- no port has the name
  unnamed : (j : ℕ) (b : Contents) → row_at r (port_key j) ≡ Some b → atoms_at b PortName ≡ Text name ∷ [] → ⊥
  unnamed j b is e =
      let none : not (has_name name b) ≡ true = row_passes r PhysicalPort (λ row. not (has_name name row.1)) (none_picked (λ row. row.0) (λ row. has_name name row.1) (rows_of PhysicalPort r) refused.0) j b is in
      true≢false (sym (both (same_atom (Text name) (Text name)) true ((eq_by_cmp_equiv atom_total).refl (Text name)) refl) ∙ sym (ap (λ xs. holds_only xs (Text name) && true) e) ∙ not_on (has_name name b) none)

  and_true : (b : Bool) → (b && true) || false ≡ true → b ≡ true
  and_true true h = refl
  and_true false h = h

  one_each : (t : Table) (i j : ℕ) (a b : Contents) → row_at after (t, i) ≡ Some a → row_at after (t, j) ≡ Some b → list_any (λ cs. agree cs a b) (unique_keys t) ≡ true → i ≡ j
  one_each t i j a b is_a is_b shared = by (is_there (t, i) a is_a) (is_there (t, j) b is_b)
    where
      table_of : (k : Key) (i : ℕ) → (t, i) ≡ k → t ≡ k.0
      table_of k i e = ap (λ (q : Key). q.0) e

      id_of : (k : Key) (i : ℕ) → (t, i) ≡ k → i ≡ k.1
      id_of k i e = ap (λ (q : Key). q.1) e

      by : IsThere (t, i) a → IsThere (t, j) b → i ≡ j
      by (inl p) (inl q) = id_of (switch_key r) i p.0 ∙ sym (id_of (switch_key r) j q.0)
      by (inl p) (inr (inl q)) = let clash : PhysicalSwitch ≡ PhysicalPort = sym (table_of (switch_key r) i p.0) ∙ table_of (port_key new) j q.0 in absurd (cc)
      by (inl p) (inr (inr old)) =
          id_of (switch_key r) i p.0 ∙ sym (alone r settled j (ap (λ u. maps.has r.rows (u, j)) (sym (table_of (switch_key r) i p.0)) ∙ ap is_some old))
      by (inr (inl p)) (inl q) = let clash : PhysicalPort ≡ PhysicalSwitch = sym (table_of (port_key new) i p.0) ∙ table_of (switch_key r) j q.0 in absurd (cc)
      by (inr (inl p)) (inr (inl q)) = id_of (port_key new) i p.0 ∙ sym (id_of (port_key new) j q.0)
      by (inr (inl p)) (inr (inr old)) =
          let same : t ≡ PhysicalPort = table_of (port_key new) i p.0 in
          absurd (unnamed j b (ap (λ u. row_at r (u, j)) (sym same) ∙ old)
          (holder (Text name) (atoms_at b PortName) (and_true _ (sym (λ k. list_any (λ cs. agree cs (p.1 k) b) (unique_keys (same k))) ∙ shared))))
      by (inr (inr old)) (inl q) =
          alone r settled i (ap (λ u. maps.has r.rows (u, i)) (sym (table_of (switch_key r) j q.0)) ∙ ap is_some old) ∙ sym (id_of (switch_key r) j q.0)
      by (inr (inr old)) (inr (inl q)) =
          let same : t ≡ PhysicalPort = table_of (port_key new) j q.0 in
          absurd (unnamed i a (ap (λ u. row_at r (u, i)) (sym same) ∙ old)
          (held (atoms_at a PortName) (Text name) (and_true _ (sym (λ k. list_any (λ cs. agree cs a (q.1 k)) (unique_keys (same k))) ∙ shared))))
      by (inr (inr old)) (inr (inr other)) = settled.sound.unique t i j a b old other shared

  sound : Sound after
  sound = record { few = few_rows; there = all_there; unique = one_each }

  -- ---- and collected

  more_named : (q : Key) → names (switch_with settled.name settled.ip ids) q ≡ true → names switch q ≡ true
  more_named q h = ap (λ ks. has_key ks q) (switch_references settled.name settled.ip joined) ∙ more_keys ids new q (sym (ap (λ ks. has_key ks q) (switch_references settled.name settled.ip ids)) ∙ h)

  by_row : (q k : Key) (row : Contents) → row_at r k ≡ Some row → names row q ≡ true → stays after.rows q ≡ true
  by_row q k row is h = by (eq_by_cmp key_cmp k (switch_key r)) refl (eq_by_cmp key_cmp k (port_key new)) refl
    where
      by : (b : Bool) → eq_by_cmp key_cmp k (switch_key r) ≡ b → (c : Bool) → eq_by_cmp key_cmp k (port_key new) ≡ c → stays after.rows q ≡ true
      by true e c f =
          let same : row ≡ switch_with settled.name settled.ip ids = same_some row (switch_with settled.name settled.ip ids) (sym is ∙ ap (row_at r) (tied k (switch_key r) e) ∙ settled.switch) in
          stays_named after (switch_key r) q switch at_switch (more_named q (ap (λ x. names x q) (sym same) ∙ h))
      by false e true f = let clash : ◌≡◌ {A = Option Contents} None (Some row) = sym (is_fresh r settled.rows unspent PhysicalPort) ∙ ap (row_at r) (sym (tied k (port_key new) f)) ∙ is in absurd (cc)
      by false e false f = stays_named after k q row (elsewhere k e f ∙ is) h

  all_stays : (q : Key) → maps.has after.rows q ≡ true → stays after.rows q ≡ true
  all_stays q h = by (was q.0 q.1 h)
    where
      by : (maps.has r.rows q ≡ true) ⊎ ((q.0 ≡ PhysicalPort) × (q.1 ≡ new)) → stays after.rows q ≡ true
      by (inl old) =
          by_or (table_rule q.0).root (is_named r.rows q) (it_stays r settled.referenced q old) (λ root. or_left (table_rule q.0).root _ root)
          (λ named. entry_so (λ e. names e.1 q) r.rows.list r.rows.sorted (λ k row is g. by_row q k row is g) named)
      by (inr same) =
          let is : q ≡ port_key new = (λ i. (same.0 i, same.1 i)) in
          subst (λ k. stays after.rows k ≡ true) (sym is) (stays_named after (switch_key r) (port_key new) switch at_switch
          (names_port settled.name settled.ip joined new (in_end ids new new ∙ or_right (has_id ids new) (new == new) (equal new))))

  clean : collected after ≡ after
  clean = all_stay after rows_after all_stays

  after_settled : IsSettled after
  after_settled = settled_after r after joined settled rows_after sound clean refl switches at_switch up own

  pub join_settled : IsSettled (with_port r name)
  join_settled = subst IsSettled (sym port_joined) after_settled

  pub join_clean : collected (with_port r name) ≡ with_port r name
  join_clean = subst (λ s. collected s ≡ s) (sym port_joined) clean
