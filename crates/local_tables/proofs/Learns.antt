-- A commit of one more learnt address never breaks a rule, and one row comes.
use Rattle.std.proofs.Common.{◌≡◌, ◌⊎◌, inl, inr, ℕ, ◌<◌, ◌≤◌, Bool, true, false, cond, ◌&&◌, ◌||◌, List, [], ◌∷◌, ◌++◌, length, is_some, Option, Some, None, Ok, refl, sym, ap, ◌∙◌, subst, true≢false, arith, length-append}
use Rattle.std.specs.List.{list_all, list_any}
use Rattle.std.specs.Ordering.{eq_by_cmp}
use Rattle.std.specs.Cmp.{eq_by_cmp_equiv, first_so}
use Rattle.vtep_base.specs.Maps as maps
use Rattle.vtep_base.specs.Addresses.{mac_text}
use Rattle.ovsdb_values.specs.declared.atoms.Atom.TheVariants.{Text, Id}
use Rattle.ovsdb_values.specs.Atoms.{atom_total, same_atom}
use Rattle.vtep_schema.specs.declared.Table.{Table}
use Rattle.vtep_schema.specs.declared.Table.TheVariants.{LogicalSwitch, UcastMacsLocal, PhysicalLocator}
use Rattle.vtep_schema.specs.Tables.{same_table, table_rule, unique_keys}
use Rattle.vtep_rows.specs.Row.{Contents, references}
use Rattle.vtep_rows.specs.Rows.{Key, key_cmp, Rows, IsRows, row_at, rows_of, ids_of, next_id, inserted, names, is_named, stays, collected, last_number}
use Rattle.vtep_rows.specs.Sound.{Sound, agree}
use Rattle.vtep_rows.specs.Orders.{key_total}
use Rattle.vtep_rows.proofs.Entries.{both, all_so, has-insert, same_some}
use Rattle.vtep_rows.proofs.Kept.{is_fresh, still_inserted, same_table_exact}
use Rattle.vtep_rows.proofs.Restored.{tied}
use Rattle.vtep_rows.proofs.IndexLaws.{put_there}
use Rattle.vtep_rows.proofs.TwinLaws.{entry_so}
use Rattle.mac_learning.specs.declared.Learnt.{Learnt}
use Rattle.mac_learning.specs.Learning.{found}
use Rattle.forward_program.specs.Built.{IsIn}
use Rattle.forward_program.specs.Follows.{Address, learnt_address}
use Rattle.forward_program.proofs.Ascending.{has_row, ids_ascend}
use Rattle.forward_program.proofs.HostLaws.{entry_found}
use Rattle.forward_program.proofs.InLists.{in_front, in_back}
use Rattle.local_tables.specs.LocalRows.{locator_key, is_individual, address_row}
use Rattle.local_tables.specs.Followed.{is_named_by_port, own_locator, located, locator_of, followed, commit}
use Rattle.local_tables.specs.Local.{IsLearning}
use Rattle.local_tables.proofs.Keyed.{first_has}
use Rattle.local_tables.proofs.Texts.{address_same}
use Rattle.local_tables.proofs.LocalLaws.{address_was, is_single}
use Rattle.local_tables.proofs.FloodsLaws.{has_number}
use Rattle.local_tables.proofs.Bound.{bound_switch}
use Rattle.local_tables.proofs.LearningLaws.{learning_is, locator_there}
use Rattle.local_tables.proofs.RowsMade.{address_is_row}
use Rattle.local_tables.proofs.Collecting.{all_stay, it_stays, stays_named, count_ids, no_more}
use Rattle.local_tables.proofs.Matched.{no_longer, ascending_apart}
use Rattle.local_tables.proofs.Ageing.{sound_kept}

-- ---- rows of learnt addresses

pub names_two : (a : Address) (locator : ℕ) → references (address_row a locator) ≡ (LogicalSwitch, a.0) ∷ (PhysicalLocator, locator) ∷ []
names_two a locator = refl

-- whether two rows share their key
abbrev share : Contents → Contents → Bool
share x y = list_any (λ cs. agree cs x y) (unique_keys UcastMacsLocal)

shared_is : (a b : Address) (k m : ℕ) → share (address_row a k) (address_row b m) ≡ (((same_atom (Id a.0) (Id b.0) && true) && ((same_atom (Text (mac_text a.1)) (Text (mac_text b.1)) && true) && true)) || false)
shared_is a b k m = refl

share_self : (a : Address) (k m : ℕ) → share (address_row a k) (address_row a m) ≡ true
share_self a k m =
    let same = eq_by_cmp_equiv atom_total in
    shared_is a a k m ∙ (λ i. ((same.refl (Id a.0) i && true) && ((same.refl (Text (mac_text a.1)) i && true) && true)) || false)

share_same : (a b : Address) (k m : ℕ) → is_individual a.1 ≡ true → is_individual b.1 ≡ true → share (address_row a k) (address_row b m) ≡ true → (a.0 ≡ b.0) × (a.1 ≡ b.1)
share_same a b k m p q h = address_same b a k q p (sym (plain (same_atom (Id a.0) (Id b.0)) (same_atom (Text (mac_text a.1)) (Text (mac_text b.1)))) ∙ sym (shared_is a b k m) ∙ h)
  where
    plain : (x y : Bool) → (((x && true) && ((y && true) && true)) || false) ≡ (x && (y && true))
    plain true true = refl
    plain true false = refl
    plain false y = refl

-- ---- one more

module _ (own : ℕ) (r : Rows) (l : List Learnt) (new : Learnt) (is : IsLearning own r l new) (room : r.counter < last_number) (locator : ℕ) (at_own : own_locator own r ≡ Some locator) where
  abbrev all : List Learnt
  all = l ++ new ∷ []

  abbrev row : Contents
  row = address_row (learnt_address new) locator

  abbrev key : Key
  key = (UcastMacsLocal, next_id r)

  abbrev after : Rows
  after = inserted r row

  rows_before : IsRows r
  rows_before = is.unchanged.after

  rows_after : IsRows after
  rows_after = still_inserted r row rows_before room (address_is_row (learnt_address new) locator is.individual)

  at_key : row_at after key ≡ Some row
  at_key = put_there r.rows key row

  elsewhere : (q : Key) → eq_by_cmp key_cmp q key ≡ false → row_at after q ≡ row_at r q
  elsewhere q apart = maps.get-insert key_total r.rows key row q ∙ ap (λ b. cond b (Some row) (row_at r q)) apart

  grows : (q : Key) → maps.has r.rows q ≡ true → maps.has after.rows q ≡ true
  grows q h = has-insert key_total r.rows key row q h

  still : (q : Key) (x : Contents) → row_at r q ≡ Some x → row_at after q ≡ Some x
  still q x there = by (eq_by_cmp key_cmp q key) refl
    where
      by : (b : Bool) → eq_by_cmp key_cmp q key ≡ b → row_at after q ≡ Some x
      by false apart = elsewhere q apart ∙ there
      by true e = let clash : ◌≡◌ {A = Option Contents} None (Some x) = sym (is_fresh r rows_before room UcastMacsLocal) ∙ ap (row_at r) (sym (tied q key e)) ∙ there in absurd (cc)

  abbrev IsThere : Key → Contents → Type 0
  IsThere q x = ((q ≡ key) × (x ≡ row)) ⊎ (row_at r q ≡ Some x)

  is_there : (q : Key) (x : Contents) → row_at after q ≡ Some x → IsThere q x
  is_there q x there = by (eq_by_cmp key_cmp q key) refl
    where
      by : (b : Bool) → eq_by_cmp key_cmp q key ≡ b → IsThere q x
      by true e = inl (tied q key e, same_some x row (sym there ∙ ap (row_at after) (tied q key e) ∙ at_key))
      by false e = inr (sym (elsewhere q e) ∙ there)

  -- ---- nothing is collected

  still_stays : (q : Key) → stays r.rows q ≡ true → stays after.rows q ≡ true
  still_stays q h = by (table_rule q.0).root (is_named r.rows q) (λ named. entry_so (λ e. names e.1 q) r.rows.list r.rows.sorted (λ k x there g. stays_named after k q x (still k x there) g) named) h
    where
      by : (root named : Bool) → (named ≡ true → (root || is_named after.rows q) ≡ true) → (root || named) ≡ true → (root || is_named after.rows q) ≡ true
      by true named so g = refl
      by false named so g = so g

  all_stays : (q : Key) → maps.has after.rows q ≡ true → stays after.rows q ≡ true
  all_stays q h = by (eq_by_cmp key_cmp q key) refl
    where
      by : (b : Bool) → eq_by_cmp key_cmp q key ≡ b → stays after.rows q ≡ true
      by true e = ap (stays after.rows) (tied q key e)
      by false e = still_stays q (it_stays r is.unchanged.referenced q (sym (ap is_some (elsewhere q e)) ∙ h))

  clean : collected after ≡ after
  clean = all_stay after rows_after all_stays

  pub learnt_rows : (followed own r r all).rows ≡ after
  learnt_rows =
      sym (learning_is own r l new is)
      ∙ ap (λ o. collected (inserted (located own o r) (address_row (learnt_address new) (locator_of o r)))) at_own ∙ clean

  -- ---- the rows are sound

  -- an entry of the address is not there
  no_entry : (d : Learnt) → IsIn d l → new.switch ≡ d.switch → new.mac ≡ d.mac → ⊥
  no_entry d listed s m = let clash : None ≡ Some d = sym is.unknown ∙ (λ j. found (s j) (m j) l) ∙ entry_found l is.unchanged.local.once d listed in cc

  no_twin : (i : ℕ) (x : Contents) → row_at r (UcastMacsLocal, i) ≡ Some x → share row x ≡ true → ⊥
  no_twin i x there h =
      let was = address_was own r r l is.unchanged i x there in
      let same = share_same (learnt_address new) (learnt_address was.entry) locator was.locator is.individual (is_single own r r l is.unchanged was.entry was.learnt) (sym (ap (share row) was.row_is) ∙ h) in
      no_entry was.entry was.learnt same.0 same.1

  no_twin_before : (i : ℕ) (x : Contents) → row_at r (UcastMacsLocal, i) ≡ Some x → share x row ≡ true → ⊥
  no_twin_before i x there h =
      let was = address_was own r r l is.unchanged i x there in
      let same = share_same (learnt_address was.entry) (learnt_address new) was.locator locator (is_single own r r l is.unchanged was.entry was.learnt) is.individual (sym (ap (λ y. share y row) was.row_is) ∙ h) in
      no_entry was.entry was.learnt (sym same.0) (sym same.1)

  one_each : (t : Table) (i j : ℕ) (a b : Contents) → row_at after (t, i) ≡ Some a → row_at after (t, j) ≡ Some b → list_any (λ cs. agree cs a b) (unique_keys t) ≡ true → i ≡ j
  one_each t i j a b is_a is_b shared = by (is_there (t, i) a is_a) (is_there (t, j) b is_b)
    where
      table_of : (i : ℕ) → (t, i) ≡ key → t ≡ UcastMacsLocal
      table_of i e = ap (λ (q : Key). q.0) e

      by : IsThere (t, i) a → IsThere (t, j) b → i ≡ j
      by (inl p) (inl q) = ap (λ (k : Key). k.1) p.0 ∙ sym (ap (λ (k : Key). k.1) q.0)
      by (inl p) (inr old) = let same = table_of i p.0 in absurd (no_twin j b (ap (λ u. row_at r (u, j)) (sym same) ∙ old) (sym (λ k. list_any (λ cs. agree cs (p.1 k) b) (unique_keys (same k))) ∙ shared))
      by (inr old) (inl q) = let same = table_of j q.0 in absurd (no_twin_before i a (ap (λ u. row_at r (u, i)) (sym same) ∙ old) (sym (λ k. list_any (λ cs. agree cs a (q.1 k)) (unique_keys (same k))) ∙ shared))
      by (inr old) (inr other) = is.unchanged.sound.unique t i j a b old other shared

  all_there : (k : Key) (x : Contents) → row_at after k ≡ Some x → list_all (maps.has after.rows) (references x) ≡ true
  all_there k x there = by (is_there k x there)
    where
      switch_there : maps.has r.rows (LogicalSwitch, new.switch) ≡ true
      switch_there = first_so (maps.has r.rows (LogicalSwitch, new.switch)) (is_named_by_port r new.switch) (bound_switch r is.unchanged.sound new is.bound)

      at_there : maps.has r.rows (PhysicalLocator, locator) ≡ true
      at_there = ap is_some (first_has r PhysicalLocator (locator_key own) locator at_own).there

      by : IsThere k x → list_all (maps.has after.rows) (references x) ≡ true
      by (inl same) =
          ap (λ y. list_all (maps.has after.rows) (references y)) same.1 ∙ ap (list_all (maps.has after.rows)) (names_two (learnt_address new) locator)
          ∙ both _ _ (grows (LogicalSwitch, new.switch) switch_there) (both _ true (grows (PhysicalLocator, locator) at_there) refl)
      by (inr old) = all_so (maps.has r.rows) (maps.has after.rows) grows (references x) (is.unchanged.sound.there k x old)

  -- ---- no more of them than entries

  -- the row of an entry
  record IsRowOf (i : ℕ) (e : Learnt) : Type 0 where
    contents : Contents
    there : row_at after (UcastMacsLocal, i) ≡ Some contents
    at : ℕ
    row_is : contents ≡ address_row (learnt_address e) at

  entry_of : (i : ℕ) → IsIn i (ids_of UcastMacsLocal after) → (e : Learnt) × IsIn e all × IsRowOf i e
  entry_of i h = by (row_at after (UcastMacsLocal, i)) refl (sym (has_row UcastMacsLocal after i) ∙ has_number (ids_of UcastMacsLocal after) i h)
    where
      of_row : (x : Contents) → row_at after (UcastMacsLocal, i) ≡ Some x → IsThere (UcastMacsLocal, i) x → (e : Learnt) × IsIn e all × IsRowOf i e
      of_row x there (inl same) = (new, in_back new l (new ∷ []) (inl refl), record { contents = x; there = there; at = locator; row_is = same.1 })
      of_row x there (inr old) =
          let was = address_was own r r l is.unchanged i x old in
          (was.entry, in_front was.entry l (new ∷ []) was.learnt, record { contents = x; there = there; at = was.locator; row_is = was.row_is })

      by : (o : Option Contents) → row_at after (UcastMacsLocal, i) ≡ o → is_some o ≡ true → (e : Learnt) × IsIn e all × IsRowOf i e
      by None none g = absurd (true≢false (sym g))
      by (Some x) there g = of_row x there (is_there (UcastMacsLocal, i) x there)

  one_row : (i j : ℕ) (e : Learnt) → IsRowOf i e → IsRowOf j e → i ≡ j
  one_row i j e a b = one_each UcastMacsLocal i j a.contents b.contents a.there b.there ((λ k. share (a.row_is k) (b.row_is k)) ∙ share_self (learnt_address e) a.at b.at)

  few_rows : length l < 2048 → (t : Table) → length (rows_of t after) ≤ (table_rule t).most
  few_rows few t = by (same_table t UcastMacsLocal) refl
    where
      addresses : length (rows_of UcastMacsLocal after) ≤ 32768
      addresses =
          let matched : length (ids_of UcastMacsLocal after) ≤ length all = no_longer IsRowOf (ids_of UcastMacsLocal after) all (ascending_apart (ids_of UcastMacsLocal after) (ids_ascend UcastMacsLocal after)) entry_of one_row in
          omega (arith, matched, count_ids UcastMacsLocal after, length-append l (new ∷ []), few)

      by : (b : Bool) → same_table t UcastMacsLocal ≡ b → length (rows_of t after) ≤ (table_rule t).most
      by true e = subst (λ u. length (rows_of u after) ≤ (table_rule u).most) (sym (same_table_exact t UcastMacsLocal e)) addresses
      by false e = no_more t r after (table_rule t).most (is.unchanged.sound.few t) (λ i h. old i (eq_by_cmp key_cmp (t, i) key) refl h)
        where
          old : (i : ℕ) (b : Bool) → eq_by_cmp key_cmp (t, i) key ≡ b → maps.has after.rows (t, i) ≡ true → maps.has r.rows (t, i) ≡ true
          old i true tie h = absurd (true≢false (sym (ap (λ (q : Key). same_table q.0 UcastMacsLocal) (tied (t, i) key tie)) ∙ e))
          old i false apart h = sym (ap is_some (elsewhere (t, i) apart)) ∙ h

  learnt_sound : length l < 2048 → Sound after
  learnt_sound few = record { few = few_rows few; there = all_there; unique = one_each }

  learnt_kept : length l < 2048 → commit own r r all ≡ Ok (followed own r r all)
  learnt_kept few =
      let number : after.counter ≤ last_number = omega (arith, room) in
      sound_kept (followed own r r all) (subst Sound (sym learnt_rows) (learnt_sound few)) (subst (λ (x : Rows). x.counter ≤ last_number) (sym learnt_rows) number)

pub learning_kept : (own : ℕ) (r : Rows) (l : List Learnt) (new : Learnt) → IsLearning own r l new → r.counter < last_number → length l < 2048 → commit own r r (l ++ new ∷ []) ≡ Ok (followed own r r (l ++ new ∷ []))
learning_kept own r l new is room few = by (own_locator own r) refl (locator_there own r l new is)
  where
    by : (o : Option ℕ) → own_locator own r ≡ o → is_some o ≡ true → commit own r r (l ++ new ∷ []) ≡ Ok (followed own r r (l ++ new ∷ []))
    by None none h = absurd (true≢false (sym h))
    by (Some locator) there h = learnt_kept own r l new is room locator there few
