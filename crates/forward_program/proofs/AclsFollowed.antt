-- Once the ACLs are followed that a change touches, each holds what its rows say after it.
use Rattle.std.proofs.Common.{◌≡◌, ◌⊎◌, ◌+◌, ◌<◌, inl, inr, ℕ, Bool, true, false, cond, ◌||◌, List, [], ◌∷◌, ◌++◌, length, get_or, drop, Option, Some, None, refl, sym, ap, ◌∙◌, subst, true≢false, arith}
use Rattle.std.specs.Prelude.{◌==◌, ◌&&◌, is_none, if◌then◌else◌}
use Rattle.std.specs.List.{filter_map, flat_map, list_any, cons_option}
use Rattle.std.specs.Option.{option_map}
use Rattle.std.specs.Cmp.{eq_by_cmp_equiv}
use Rattle.std.specs.Ordering.{eq_by_cmp}
use Rattle.std.proofs.lemmas.Bool.Decides.{Decides-eqb}
use Rattle.vtep_base.specs.Maps as maps
use Rattle.vtep_schema.specs.declared.Table.{Table}
use Rattle.vtep_schema.specs.declared.Table.TheVariants.{Acl, AclEntry}
use Rattle.vtep_schema.specs.declared.Column.TheVariants.{AclEntries}
use Rattle.vtep_schema.specs.Tables.{same_table}
use Rattle.vtep_rows.specs.declared.differences.RowChange.{RowChange}
use Rattle.vtep_rows.specs.Row.{Contents, ids_at, put_all}
use Rattle.vtep_rows.specs.Rows.{Rows, rows_of, row_at}
use Rattle.vtep_rows.specs.Changes.{changes}
use Rattle.vtep_rows.proofs.Entries.{both, same_some}
use Rattle.vtep_rows.proofs.Kept.{same_table_exact, same_table_itself}
use Rattle.acl_rules.specs.Permits.{in_order}
use Rattle.forward_program.specs.declared.spots.Spot.{Spot}
use Rattle.forward_program.specs.declared.spots.Spot.TheVariants as spot
use Rattle.forward_program.specs.declared.held.Held.TheVariants as held
use Rattle.forward_program.specs.Acls.{entry_of, entry_at, entries_at}
use Rattle.forward_program.specs.Built.{IsIn}
use Rattle.forward_program.specs.Spots.{Entries, spot_cmp, spot_total}
use Rattle.forward_program.specs.Shown.{Entry, acl_entry, with_acls, rows_shown}
use Rattle.forward_program.specs.Follows.{places, is_of_acl, acl_tail, gone_acl, without, has_row, is_touched, touched_entry, touched_entries, acls_followed}
use Rattle.forward_program.proofs.InLists.{in_map, map_in, in_flat, flat_in, in_picked, picked_in}
use Rattle.forward_program.proofs.RowsIn.{in_rows, rows_in}
use Rattle.forward_program.proofs.MapLists.{apart, put_out, put_in}
use Rattle.forward_program.proofs.SpotOrder.{spot_exact}
use Rattle.forward_program.proofs.InChange.{one_at, one_is, same_or_changed}
use Rattle.forward_program.proofs.JoinLaws.{passes_some}
use Rattle.forward_program.proofs.ClearRows.{one_left}
use Rattle.forward_program.proofs.AclPlaces.{is_acl, acl_same, none_there, acl_there, acl_absent}

-- ---- the rows of ACLs in a change

pub in_tail : (c : RowChange) (cs : List RowChange) → IsIn c cs → is_of_acl c ≡ true → IsIn c (acl_tail cs)
in_tail c [] h is = h
in_tail c (d ∷ cs) (inl e) is = subst (λ b. IsIn c (if b then d ∷ cs else acl_tail cs)) (sym (ap is_of_acl (sym e) ∙ is)) (inl e)
in_tail c (d ∷ cs) (inr h) is =
    let rest = in_tail c cs h is in
    elim (is_of_acl d) as (λ b. IsIn c (if b then d ∷ cs else acl_tail cs)) [ true ↦ inr h | false ↦ rest ]

pub tail_in : (c : RowChange) (cs : List RowChange) → IsIn c (acl_tail cs) → IsIn c cs
tail_in c [] h = h
tail_in c (d ∷ cs) h = by (is_of_acl d) h (tail_in c cs)
  where
    by : (b : Bool) → IsIn c (if b then d ∷ cs else acl_tail cs) → (IsIn c (acl_tail cs) → IsIn c cs) → IsIn c (d ∷ cs)
    by true g rest = g
    by false g rest = inr (rest g)

-- row by row
module _ (cs : List RowChange) (i : ℕ) (c : RowChange) (lt : i < length cs) (at : c ≡ get_or cs i c) where
  tail_step : acl_tail (drop i cs) ≡ (if is_of_acl c then c ∷ drop (i + 1) cs else acl_tail (drop (i + 1) cs))
  tail_step = ap acl_tail (one_left cs i c lt at)

  pub tail_here : true ≡ is_of_acl c → acl_tail (drop i cs) ≡ acl_tail cs → drop i cs ≡ acl_tail cs
  tail_here h is = one_left cs i c lt at ∙ ap (λ b. if b then c ∷ drop (i + 1) cs else acl_tail (drop (i + 1) cs)) h ∙ sym tail_step ∙ is

  pub tail_later : false ≡ is_of_acl c → acl_tail (drop i cs) ≡ acl_tail cs → acl_tail (drop (i + 1) cs) ≡ acl_tail cs
  tail_later h is = ap (λ b. if b then c ∷ drop (i + 1) cs else acl_tail (drop (i + 1) cs)) h ∙ sym tail_step ∙ is

number_itself : (n : ℕ) → (n == n) ≡ true
number_itself n = (Decides-eqb n n).1 refl

has_it : (c : RowChange) (cs : List RowChange) → IsIn c cs → has_row cs c.table c.id ≡ true
has_it c cs is = passes_some (λ (d : RowChange). same_table d.table c.table && (d.id == c.id)) c cs is (both (same_table c.table c.table) (c.id == c.id) (same_table_itself c.table) (number_itself c.id))

-- ---- a change without rows

never_any : (xs : List ℕ) → list_any (has_row [] AclEntry) xs ≡ false
never_any [] = refl
never_any (x ∷ xs) = never_any xs

nothing_put : (r : Rows) (es : List (ℕ × Contents)) → flat_map (touched_entry r []) es ≡ []
nothing_put r [] = refl
nothing_put r (e ∷ es) = ap (λ b. (if b then acl_entry r e ∷ [] else []) ++ flat_map (touched_entry r []) es) (never_any (ids_at e.1 AclEntries)) ∙ nothing_put r es

empty : (cs : List RowChange) → true ≡ (length cs == 0) → cs ≡ []
empty [] e = refl
empty (c ∷ cs) e = let none : length (c ∷ cs) ≡ 0 = (Decides-eqb (length (c ∷ cs)) 0).0 (sym e) in absurd (omega arith)

pub none_followed : (r : Rows) (change : List RowChange) (m : Entries) → true ≡ (length change == 0) → m ≡ acls_followed r change m
none_followed r change m none = let is = empty change none in sym (ap (λ (cs : List RowChange). acls_followed r cs m) is ∙ ap (put_all m) (nothing_put r (rows_of Acl r)))

-- ---- places that are emptied

module _ (m : Entries) (q : Spot) where
  removed_there : maps.get (maps.remove m q) q ≡ None
  removed_there = maps.get-remove spot_total m q q ∙ ap (λ b. cond b None (maps.get m q)) (itself q)
    where
      itself : (k : Spot) → eq_by_cmp spot_cmp k k ≡ true
      itself k = (eq_by_cmp_equiv spot_total).refl k

  removed_apart : (k : Spot) → (k ≡ q → ⊥) → maps.get (maps.remove m q) k ≡ maps.get m k
  removed_apart k other = maps.get-remove spot_total m q k ∙ ap (λ b. cond b None (maps.get m k)) (apart spot_total spot_exact k q other)

pub without_out : (m : Entries) (ks : List Spot) (k : Spot) → (IsIn k ks → ⊥) → maps.get (without m ks) k ≡ maps.get m k
without_out m [] k out = refl
without_out m (q ∷ ks) k out = without_out (maps.remove m q) ks k (λ h. out (inr h)) ∙ removed_apart m q k (λ e. out (inl e))

without_none : (m : Entries) (ks : List Spot) (k : Spot) → maps.get m k ≡ None → maps.get (without m ks) k ≡ None
without_none m [] k none = none
without_none m (q ∷ ks) k none = without_none (maps.remove m q) ks k (maps.get-remove spot_total m q k ∙ either (eq_by_cmp spot_cmp k q))
  where
    either : (b : Bool) → cond b None (maps.get m k) ≡ None
    either true = refl
    either false = none

without_in : (m : Entries) (ks : List Spot) (k : Spot) → IsIn k ks → maps.get (without m ks) k ≡ None
without_in m [] k h = absurd h
without_in m (q ∷ ks) k (inl e) = without_none (maps.remove m q) ks k (ap (maps.get (maps.remove m q)) e ∙ removed_there m q)
without_in m (q ∷ ks) k (inr h) = without_in (maps.remove m q) ks k h

-- ---- what is put

same_picks : {A B : Type 0} (f g : A → Option B) (xs : List A) → ((x : A) → IsIn x xs → f x ≡ g x) → filter_map f xs ≡ filter_map g xs
same_picks f g [] same = refl
same_picks f g (x ∷ xs) same = λ i. cons_option (same x (inl refl) i) (same_picks f g xs (λ y h. same y (inr h)) i)

its_acl : (c : RowChange) (k : Spot) → gone_acl c ≡ Some k → (c.table ≡ Acl) × (c.new ≡ None) × (k ≡ spot.Acl c.id)
its_acl c k e = by (same_table c.table Acl) refl c.new refl e
  where
    by : (b : Bool) → same_table c.table Acl ≡ b → (o : Option Contents) → c.new ≡ o → (if b && is_none o then Some (spot.Acl c.id) else None) ≡ Some k → (c.table ≡ Acl) × (c.new ≡ None) × (k ≡ spot.Acl c.id)
    by true t None is h = (same_table_exact c.table Acl t, is, sym (same_some (spot.Acl c.id) k h))
    by true t (Some row) is h = cc
    by false t None is h = cc
    by false t (Some row) is h = cc

module _ (before now : Rows) (change : List RowChange) (is : change ≡ changes before now) where
  abbrev tail : List RowChange
  tail = acl_tail change

  abbrev gone : List Spot
  gone = filter_map gone_acl tail

  abbrev touched : List Entry
  touched = touched_entries now tail

  -- a row of an ACL or of an entry is the same, or it is in the tail
  same_or_there : (t : Table) (id : ℕ) → is_of_acl (one_at before now (t, id)) ≡ true → (row_at before (t, id) ≡ row_at now (t, id)) ⊎ IsIn (one_at before now (t, id)) tail
  same_or_there t id of_acl = elim (same_or_changed before now (t, id)) [
    | inl same ↦ inl same
    | inr there ↦ inr (in_tail (one_at before now (t, id)) change (subst (λ (cs : List RowChange). IsIn (one_at before now (t, id)) cs) (sym is) there) of_acl)
  ]

  -- an ACL that went has no row
  gone_row : (i : ℕ) → IsIn (spot.Acl i) gone → row_at now (Acl, i) ≡ None
  gone_row i h =
      let c = in_picked gone_acl (spot.Acl i) tail h in
      let x = its_acl c.0 (spot.Acl i) c.2 in
      let one = one_is before now c.0 (subst (λ (cs : List RowChange). IsIn c.0 cs) is (tail_in c.0 change c.1)) in
      (λ j. row_at now (sym x.0 j, acl_same i c.0.id x.2 j)) ∙ sym one.1 ∙ x.1

  touched_row : (x : Entry) → IsIn x touched → (e : ℕ × Contents) × IsIn e (rows_of Acl now) × (is_touched tail e ≡ true) × (x ≡ acl_entry now e)
  touched_row x h = let e = in_flat (touched_entry now tail) x (rows_of Acl now) h in by e.0 e.1 (is_touched tail e.0) refl e.2
    where
      by : (e : ℕ × Contents) → IsIn e (rows_of Acl now) → (b : Bool) → is_touched tail e ≡ b → IsIn x (if b then acl_entry now e ∷ [] else [])
          → (d : ℕ × Contents) × IsIn d (rows_of Acl now) × (is_touched tail d ≡ true) × (x ≡ acl_entry now d)
      by e there true t (inl same) = (e, there, t, same)
      by e there true t (inr never) = absurd never
      by e there false t never = absurd never

  touched_place : (k : Spot) → IsIn k (places touched) → (e : ℕ × Contents) × IsIn e (rows_of Acl now) × (is_touched tail e ≡ true) × (k ≡ spot.Acl e.0)
  touched_place k h =
      let x = in_map (λ (y : Entry). y.0) k touched h in
      let e = touched_row x.0 x.1 in
      (e.0, e.1, e.2, x.2 ∙ ap (λ (y : Entry). y.0) e.3)

  -- places of nothing else are as they were
  pub others_stay : (p : Entries) (k : Spot) → is_acl k ≡ false → maps.get (acls_followed now tail p) k ≡ maps.get p k
  others_stay p k other =
      put_out spot_total spot_exact touched (without p gone) k (λ h. let e = touched_place k h in let clash : false ≡ true = sym other ∙ ap is_acl e.3 in cc)
      ∙ without_out p gone k (λ h. let c = in_picked gone_acl k tail h in let clash : false ≡ true = sym other ∙ ap is_acl (its_acl c.0 k c.2).2 in cc)

  module _ (p : Entries) (i : ℕ) (was : maps.get p (spot.Acl i) ≡ maps.get (with_acls before (rows_shown before)) (spot.Acl i)) where
    -- an ACL without a row
    gone_right : row_at now (Acl, i) ≡ None → maps.get (acls_followed now tail p) (spot.Acl i) ≡ None
    gone_right none =
        put_out spot_total spot_exact touched (without p gone) (spot.Acl i)
        (λ h. let e = touched_place (spot.Acl i) h in let clash : None ≡ Some e.0.1 = sym none ∙ ap (λ j. row_at now (Acl, j)) (acl_same i e.0.0 e.3) ∙ in_rows now Acl e.0 e.1 in cc)
        ∙ by (same_or_there Acl i refl)
      where
        by : (row_at before (Acl, i) ≡ row_at now (Acl, i)) ⊎ IsIn (one_at before now (Acl, i)) tail → maps.get (without p gone) (spot.Acl i) ≡ None
        by (inl same) = without_none p gone (spot.Acl i) (was ∙ acl_absent before (rows_shown before) i (same ∙ none) ∙ none_there before i)
        by (inr there) =
            without_in p gone (spot.Acl i)
            (picked_in gone_acl (spot.Acl i) (one_at before now (Acl, i)) tail there (ap (λ o. if is_none o then Some (spot.Acl i) else None) none))

    -- one that is touched
    put_right : (row : Contents) → row_at now (Acl, i) ≡ Some row → is_touched tail (i, row) ≡ true → maps.get (acls_followed now tail p) (spot.Acl i) ≡ Some (held.Rules (entries_at now row))
    put_right row at t =
        let here : IsIn (acl_entry now (i, row)) touched =
        flat_in (touched_entry now tail) (acl_entry now (i, row)) (i, row) (rows_of Acl now) (rows_in now Acl i row at) (subst (λ b. IsIn (acl_entry now (i, row)) (if b then acl_entry now (i, row) ∷ [] else [])) (sym t) (inl refl)) in
        let x = put_in spot_total spot_exact touched (without p gone) (spot.Acl i) (map_in (λ (y : Entry). y.0) (acl_entry now (i, row)) touched here) in
        let e = touched_row (spot.Acl i, x.0) x.1 in
        let same : e.0.1 ≡ row = same_some e.0.1 row (sym (in_rows now Acl e.0 e.1) ∙ ap (λ j. row_at now (Acl, j)) (sym (acl_same i e.0.0 (ap (λ (y : Entry). y.0) e.3))) ∙ at) in
        x.2 ∙ ap (λ (y : Entry). Some y.1) e.3 ∙ ap (λ c. Some (held.Rules (entries_at now c))) same

    -- one that is not touched has the row and the entries that it had
    untouched_row : (row : Contents) → row_at now (Acl, i) ≡ Some row → is_touched tail (i, row) ≡ false → row_at before (Acl, i) ≡ Some row
    untouched_row row at t = by (same_or_there Acl i refl)
      where
        by : (row_at before (Acl, i) ≡ row_at now (Acl, i)) ⊎ IsIn (one_at before now (Acl, i)) tail → row_at before (Acl, i) ≡ Some row
        by (inl same) = same ∙ at
        by (inr there) =
            let clash : true ≡ false = sym (ap (λ b. b || list_any (has_row tail AclEntry) (ids_at row AclEntries)) (has_it (one_at before now (Acl, i)) tail there)) ∙ t in
            absurd (true≢false clash)

    untouched_entry : (row : Contents) → is_touched tail (i, row) ≡ false → (id : ℕ) → IsIn id (ids_at row AclEntries) → entry_at before id ≡ entry_at now id
    untouched_entry row t id listed = by (same_or_there AclEntry id refl)
      where
        or_true : (a b : Bool) → b ≡ true → (a || b) ≡ true
        or_true true b e = refl
        or_true false b e = e

        by : (row_at before (AclEntry, id) ≡ row_at now (AclEntry, id)) ⊎ IsIn (one_at before now (AclEntry, id)) tail → entry_at before id ≡ entry_at now id
        by (inl same) = ap (option_map (entry_of id)) same
        by (inr there) =
            let found : list_any (has_row tail AclEntry) (ids_at row AclEntries) ≡ true = passes_some (has_row tail AclEntry) id (ids_at row AclEntries) listed (has_it (one_at before now (AclEntry, id)) tail there) in
            let clash : true ≡ false = sym (or_true (has_row tail Acl i) (list_any (has_row tail AclEntry) (ids_at row AclEntries)) found) ∙ t in
            absurd (true≢false clash)

    stay_right : (row : Contents) → row_at now (Acl, i) ≡ Some row → is_touched tail (i, row) ≡ false → maps.get (acls_followed now tail p) (spot.Acl i) ≡ Some (held.Rules (entries_at now row))
    stay_right row at t =
        put_out spot_total spot_exact touched (without p gone) (spot.Acl i) (λ h.
        let e = touched_place (spot.Acl i) h in
        let id : i ≡ e.0.0 = acl_same i e.0.0 e.3 in
        let same : row ≡ e.0.1 = same_some row e.0.1 (sym at ∙ ap (λ j. row_at now (Acl, j)) id ∙ in_rows now Acl e.0 e.1) in
        let clash : false ≡ true = sym t ∙ (λ j. is_touched tail (id j, same j)) ∙ e.2 in
        cc)
        ∙ without_out p gone (spot.Acl i) (λ h. let clash : Some row ≡ None = sym at ∙ gone_row i h in cc)
        ∙ was
        ∙ acl_there before (rows_shown before) i row (untouched_row row at t)
        ∙ ap (λ es. Some (held.Rules (in_order es))) (same_picks (entry_at before) (entry_at now) (ids_at row AclEntries) (untouched_entry row t))

    pub acl_right : maps.get (acls_followed now tail p) (spot.Acl i) ≡ maps.get (with_acls now (rows_shown now)) (spot.Acl i)
    acl_right = by (row_at now (Acl, i)) refl
      where
        at_row : (row : Contents) → row_at now (Acl, i) ≡ Some row → (b : Bool) → is_touched tail (i, row) ≡ b → maps.get (acls_followed now tail p) (spot.Acl i) ≡ Some (held.Rules (entries_at now row))
        at_row row at true t = put_right row at t
        at_row row at false t = stay_right row at t

        by : (o : Option Contents) → row_at now (Acl, i) ≡ o → maps.get (acls_followed now tail p) (spot.Acl i) ≡ maps.get (with_acls now (rows_shown now)) (spot.Acl i)
        by None none = gone_right none ∙ sym (acl_absent now (rows_shown now) i none ∙ none_there now i)
        by (Some row) at = at_row row at (is_touched tail (i, row)) refl ∙ sym (acl_there now (rows_shown now) i row at)
