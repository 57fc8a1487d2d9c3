-- What a commit brings about is what the relation says, and nothing else is.
use Rattle.std.proofs.Common.{◌≡◌, ◌⊎◌, inl, inr, ℕ, ◌+◌, ◌<◌, ◌≤◌, ◌^◌, Bool, true, false, not, cond, ◌&&◌, List, [], ◌∷◌, map, is_some, Option, Some, None, refl, sym, ap, ◌∙◌, subst, true≢false}
use Rattle.std.specs.Prelude.{if◌then◌else◌}
use Rattle.std.specs.List.{filter, list_all}
use Rattle.std.specs.Option.{option_map, unwrap_or}
use Rattle.std.specs.Cmp.{first_so, second_so}
use Rattle.vtep_base.specs.Maps as maps
use Rattle.vtep_base.specs.Maps.{Map}
use Rattle.ovsdb_values.specs.declared.atoms.Atom.{Atom}
use Rattle.vtep_schema.specs.declared.Table.{Table}
use Rattle.vtep_schema.specs.declared.Table.TheVariants.{Global, PhysicalPort, LogicalSwitch, UcastMacsLocal, McastMacsLocal, PhysicalLocatorSet, PhysicalLocator}
use Rattle.vtep_schema.specs.Tables.{table_rule}
use Rattle.vtep_rows.specs.Row.{Contents, is_row, references}
use Rattle.vtep_rows.specs.Rows.{Key, same_key, Rows, IsRows, row_at, row_id, next_id, names, stays, collected, last_number}
use Rattle.vtep_rows.proofs.Entries.{both}
use Rattle.vtep_rows.proofs.Collected.{is_collected, only_one}
use Rattle.vtep_rows.proofs.Restored.{itself}
use Rattle.vtep_rows.proofs.TwinLaws.{one_answer}
use Rattle.mac_learning.specs.declared.Learnt.{Learnt}
use Rattle.forward_program.specs.Built.{IsIn}
use Rattle.forward_program.specs.Follows.{Address, learnt_address}
use Rattle.forward_program.proofs.InLists.{in_map, map_in}
use Rattle.local_tables.specs.LocalRows.{address_key, flood_key, locator_key, has_key, row_with, is_individual, set_row, address_row}
use Rattle.local_tables.specs.Followed.{bound_switches, stays as stays_learnt, is_stale, stale_at, without_stale, staying, own_locator, missing_floods, by_address, missing_addresses, are_none, completed_by, completed, followed}
use Rattle.local_tables.specs.Following.{address_keys, flood_keys}
use Rattle.local_tables.specs.Local.{IsChanged}
use Rattle.local_tables.specs.Follows.{has_one_of, IsOne, FollowsKeys, local_rows, own_rows, new_rows, numbered, new_places, is_local, Follows}
use Rattle.local_tables.proofs.Members.{in_any, in_all, filter_same, in_filter, all_in}
use Rattle.local_tables.proofs.Keyed.{IsKeyed, first_has, has_first}
use Rattle.local_tables.proofs.RemovingLaws.{at_picked}
use Rattle.local_tables.proofs.Same.{SameTable, same_with, same_switches}
use Rattle.local_tables.proofs.Stale.{any_map}
use Rattle.local_tables.proofs.Missing.{by_address_in}
use Rattle.local_tables.proofs.RowsMade.{locator_is_row, address_is_row}
use Rattle.local_tables.proofs.Grown.{still_picked}
use Rattle.local_tables.proofs.After.{root_stays, was_left}
use Rattle.local_tables.proofs.Collecting.{exact, still_in, stays_named}
use Rattle.local_tables.proofs.LocalLaws.{addresses_keyed, floods_keyed}
use Rattle.local_tables.proofs.Numbered.{with_rows, numbers_are, made_is, all_rows, all_stay, all_come, was_or_came, completed_are, placed_in}
use Rattle.local_tables.proofs.NewRows.{Come, IsNewRow, IsLocalRow, floods, addresses, here, in_new, in_local, one_single, floods_come, addresses_come, set_named}

-- ---- the rows that stay

module _ (r : Rows) (kept : List Learnt) where
  abbrev pub fewest : Rows
  fewest = without_stale r kept

  fresh_stays : (k : Key) (row : Contents) → row_at r k ≡ Some row → is_stale r kept k.0 row ≡ false → row_at fewest k ≡ Some row
  fresh_stays k row there fresh =
      at_picked (λ k. not (stale_at r kept k)) r k
      ∙ ap (λ b. cond (not b) (row_at r k) None) (ap (λ o. unwrap_or (option_map (is_stale r kept k.0) o) false) there ∙ fresh) ∙ there

  left_was : (k : Key) (row : Contents) → row_at fewest k ≡ Some row → row_at r k ≡ Some row
  left_was k row there = by (not (stale_at r kept k)) (sym (at_picked (λ k. not (stale_at r kept k)) r k) ∙ there)
    where
      by : (b : Bool) → cond b (row_at r k) None ≡ Some row → row_at r k ≡ Some row
      by true h = h
      by false h = cc

  left_fresh : (k : Key) (row : Contents) → row_at fewest k ≡ Some row → is_stale r kept k.0 row ≡ false
  left_fresh k row there = by (is_stale r kept k.0 row) refl
    where
      by : (b : Bool) → is_stale r kept k.0 row ≡ b → is_stale r kept k.0 row ≡ false
      by false e = e
      by true e =
          let gone : row_at fewest k ≡ None =
          at_picked (λ k. not (stale_at r kept k)) r k ∙ ap (λ b. cond (not b) (row_at r k) None) (ap (λ o. unwrap_or (option_map (is_stale r kept k.0) o) false) (left_was k row there) ∙ e) in
          let clash : ◌≡◌ {A = Option Contents} None (Some row) = sym gone ∙ there in
          cc

  other_fresh : (t : Table) (row : Contents) → is_local t ≡ false → is_stale r kept t row ≡ false
  other_fresh UcastMacsLocal row h = absurd (true≢false h)
  other_fresh McastMacsLocal row h = absurd (true≢false h)
  other_fresh Global row h = refl
  other_fresh t row h = refl

  other_same : (t : Table) → is_local t ≡ false → SameTable t fewest r
  other_same t other i = by (row_at r (t, i)) refl
    where
      none : (b : Bool) → row_at r (t, i) ≡ None → cond b (row_at r (t, i)) None ≡ None
      none true e = e
      none false e = refl

      by : (o : Option Contents) → row_at r (t, i) ≡ o → row_at fewest (t, i) ≡ row_at r (t, i)
      by (Some row) there = fresh_stays (t, i) row there (other_fresh t row other) ∙ sym there
      by None e = at_picked (λ k. not (stale_at r kept k)) r (t, i) ∙ none (not (stale_at r kept (t, i))) e ∙ sym e

  -- ---- of a table whose rows have these keys

  module _ (t : Table) (keys : List (List Atom)) (stale : (row : Contents) → is_stale r kept t row ≡ not (has_one_of t keys row)) where
    keeps_key : (i : ℕ) (row : Contents) → row_at r (t, i) ≡ Some row → has_one_of t keys row ≡ true → row_at fewest (t, i) ≡ Some row
    keeps_key i row there h = fresh_stays (t, i) row there (stale row ∙ ap not h)

    left_has : (i : ℕ) (row : Contents) → row_at fewest (t, i) ≡ Some row → has_one_of t keys row ≡ true
    left_has i row there = not_off (has_one_of t keys row) (sym (stale row) ∙ left_fresh (t, i) row there)
      where
        not_off : (b : Bool) → not b ≡ false → b ≡ true
        not_off true h = refl
        not_off false h = sym h

    same_some : (key : List Atom) → IsIn key keys → is_some (row_with t key fewest) ≡ is_some (row_with t key r)
    same_some key h = one_answer (is_some (row_with t key fewest)) (is_some (row_with t key r)) (λ g. after (row_with t key fewest) refl g) (λ g. before (row_with t key r) refl g)
      where
        after : (o : Option ℕ) → row_with t key fewest ≡ o → is_some o ≡ true → is_some (row_with t key r) ≡ true
        after None e g = absurd (true≢false (sym g))
        after (Some i) e g = let here = first_has fewest t key i e in has_first r t key i (record { row = here.row; there = left_was (t, i) here.row here.there; held = here.held })

        before : (o : Option ℕ) → row_with t key r ≡ o → is_some o ≡ true → is_some (row_with t key fewest) ≡ true
        before None e g = absurd (true≢false (sym g))
        before (Some i) e g =
            let here = first_has r t key i e in
            has_first fewest t key i (record { row = here.row; there = keeps_key i here.row here.there (in_any (λ key. has_key t key here.row) keys key h here.held); held = here.held })

  stale_address : (row : Contents) → is_stale r kept UcastMacsLocal row ≡ not (has_one_of UcastMacsLocal (address_keys kept) row)
  stale_address row = ap not (sym (any_map (λ key. has_key UcastMacsLocal key row) (λ (e : Learnt). address_key (learnt_address e)) kept))

  stale_flood : (row : Contents) → is_stale r kept McastMacsLocal row ≡ not (has_one_of McastMacsLocal (flood_keys (bound_switches r)) row)
  stale_flood row = ap not (sym (any_map (λ key. has_key McastMacsLocal key row) flood_key (bound_switches r)))

  -- ---- the rows that come

  floods_same : missing_floods fewest ≡ missing_floods r
  floods_same =
      ap (filter (λ s. not (is_some (row_with McastMacsLocal (flood_key s) fewest)))) (same_switches fewest r (other_same PhysicalPort refl) (other_same LogicalSwitch refl))
      ∙ filter_same (λ s. not (is_some (row_with McastMacsLocal (flood_key s) fewest))) (λ s. not (is_some (row_with McastMacsLocal (flood_key s) r))) (bound_switches r)
      (λ s h. ap not (same_some McastMacsLocal (flood_keys (bound_switches r)) stale_flood (flood_key s) (map_in flood_key s (bound_switches r) h)))

  addresses_same : missing_addresses fewest kept ≡ missing_addresses r kept
  addresses_same =
      filter_same (λ a. not (is_some (row_with UcastMacsLocal (address_key a) fewest))) (λ a. not (is_some (row_with UcastMacsLocal (address_key a) r))) (by_address kept)
      (λ a h.
      let from = by_address_in kept a h in
      ap not
      (same_some UcastMacsLocal (address_keys kept) stale_address (address_key a)
      (subst (λ x. IsIn (address_key x) (address_keys kept)) (sym from.2) (map_in (λ (e : Learnt). address_key (learnt_address e)) from.0 kept from.1))))

  same_own : (own : ℕ) (o : Option ℕ) → own_rows own o fewest (missing_floods r) (missing_addresses r kept) ≡ own_rows own o r (missing_floods r) (missing_addresses r kept)
  same_own own None = refl
  same_own own (Some locator) = refl

  pub completed_is : (own : ℕ) → completed own fewest kept ≡ with_rows fewest (new_rows own r kept)
  completed_is own =
      (λ i. completed_by own (same_with PhysicalLocator fewest r (other_same PhysicalLocator refl) (locator_key own) i) (floods_same i) (addresses_same i) fewest)
      ∙ completed_are own (own_locator own r) fewest (missing_floods r) (missing_addresses r kept)
      ∙ ap (λ rows. with_rows fewest (if are_none (missing_floods r) (missing_addresses r kept) then [] else rows)) (same_own own (own_locator own r))

-- ---- a commit of rows whose Local rows have one key each

module _ (own : ℕ) (r : Rows) (kept : List Learnt) (small : own < 2 ^ 32) (rows : IsRows r) (single : (e : Learnt) → IsIn e kept → is_individual e.mac ≡ true) (fits : (with_rows (fewest r kept) (new_rows own r kept)).counter ≤ last_number) where
  abbrev news : List Contents
  news = new_rows own r kept

  abbrev places : List (Key × Contents)
  places = new_places own r kept

  abbrev pub grown : Rows
  grown = with_rows (fewest r kept) news

  abbrev pub after : Rows
  after = collected grown

  are_rows : list_all is_row news ≡ true
  are_rows = in_all is_row news (λ row h. by row (in_new own r kept row h))
    where
      by : (row : Contents) → IsNewRow own (here own r kept) (floods own r kept) (addresses own r kept) row → is_row row ≡ true
      by row (inl locator) = ap is_row locator ∙ locator_is_row own small
      by row (inr (inl set)) = ap is_row set
      by row (inr (inr (inl flood))) = ap is_row flood.3
      by row (inr (inr (inr address))) = ap is_row address.2 ∙ address_is_row address.0 (here own r kept) (one_single own r kept single address.0 address.1)

  fewest_rows : IsRows (fewest r kept)
  fewest_rows = still_picked (λ k. not (stale_at r kept k)) r rows

  grown_rows : IsRows grown
  grown_rows = all_rows (fewest r kept) news fewest_rows are_rows fits

  grown_stays : (k : Key) (row : Contents) → row_at (fewest r kept) k ≡ Some row → row_at grown k ≡ Some row
  grown_stays k row there = all_stay (fewest r kept) news fewest_rows are_rows fits k row there

  grown_comes : (k : Key) (row : Contents) → IsIn (k, row) places → row_at grown k ≡ Some row
  grown_comes k row h = all_come (fewest r kept) news fewest_rows are_rows fits k row h

  grown_was : (k : Key) (row : Contents) → row_at grown k ≡ Some row → (row_at (fewest r kept) k ≡ Some row) ⊎ IsIn (k, row) places
  grown_was k row there = was_or_came (fewest r kept) news k row there

  source : (k : Key) (row : Contents) → row_at after k ≡ Some row → (row_at (fewest r kept) k ≡ Some row) ⊎ IsIn (k, row) places
  source k row there = grown_was k row (was_left grown k row there)

  -- what was there and stays is there
  is_left : (k : Key) (row : Contents) → row_at grown k ≡ Some row → stays after.rows k ≡ true → row_at after k ≡ Some row
  is_left k row there still = (is_collected grown).same k (still_in grown k (ap is_some there) still) ∙ there

  named_left : (q : Key) (x : Contents) → row_at after q ≡ Some x → (k : Key) (row : Contents) → names x k ≡ true → row_at grown k ≡ Some row → row_at after k ≡ Some row
  named_left q x there k row named before = is_left k row before (stays_named after q k x there named)

  -- ---- one row of each key

  module _ (t : Table) (keys : List (List Atom)) (root : (table_rule t).root ≡ true) (stale : (row : Contents) → is_stale r kept t row ≡ not (has_one_of t keys row)) (keyed : IsKeyed r t) (come : Come t keys r places) where
    kept_there : (i : ℕ) (row : Contents) → row_at r (t, i) ≡ Some row → has_one_of t keys row ≡ true → row_at after (t, i) ≡ Some row
    kept_there i row there h = root_stays grown (t, i) row root (grown_stays (t, i) row (keeps_key r kept t keys stale i row there h))

    new_there : (i : ℕ) (row : Contents) → IsIn ((t, i), row) places → row_at after (t, i) ≡ Some row
    new_there i row h = root_stays grown (t, i) row root (grown_comes (t, i) row h)

    one_there : (key : List Atom) → IsIn key keys → (i : ℕ) (row : Contents) → row_at after (t, i) ≡ Some row → has_key t key row ≡ true → IsOne after t key
    one_there key h i row there held = record {
      id = i;
      row = row;
      there = there;
      held = held;
      alone = λ j other is also. by j other also (source (t, j) other is) (source (t, i) row there);
    }
      where
        lacking : (m : ℕ) (x : Contents) → row_at (fewest r kept) (t, m) ≡ Some x → has_key t key x ≡ true → (n : ℕ) (y : Contents) → IsIn ((t, n), y) places → has_key t key y ≡ true → ⊥
        lacking m x was on n y new on_new =
            true≢false (sym (has_first r t key m (record { row = x; there = left_was r kept (t, m) x was; held = on })) ∙ come.lacks key h n y new on_new)

        by : (j : ℕ) (other : Contents) → has_key t key other ≡ true → (row_at (fewest r kept) (t, j) ≡ Some other) ⊎ IsIn ((t, j), other) places → (row_at (fewest r kept) (t, i) ≡ Some row) ⊎ IsIn ((t, i), row) places → j ≡ i
        by j other also (inl was) (inl before) =
            keyed key j i (record { row = other; there = left_was r kept (t, j) other was; held = also }) (record { row = row; there = left_was r kept (t, i) row before; held = held })
        by j other also (inl was) (inr new) = absurd (lacking j other was also i row new held)
        by j other also (inr new) (inl before) = absurd (lacking i row before held j other new also)
        by j other also (inr new) (inr came) = come.once key h j i other row new came also held

    pub keys_follow : FollowsKeys t keys r after
    keys_follow = record {
      each = λ key h. by key h (row_with t key r) refl;
      only = λ i row there. elim (source (t, i) row there) [ inl was ↦ left_has r kept t keys stale i row was | inr new ↦ come.only i row new ];
      kept = kept_there;
    }
      where
        by : (key : List Atom) → IsIn key keys → (o : Option ℕ) → row_with t key r ≡ o → IsOne after t key
        by key h (Some i) e =
            let here = first_has r t key i e in
            one_there key h i here.row (kept_there i here.row here.there (in_any (λ key. has_key t key here.row) keys key h here.held)) here.held
        by key h None e = let new = come.comes key h (ap is_some e) in one_there key h new.0 new.1 (new_there new.0 new.1 new.2) new.3

  -- ---- what is new is left

  module _ (made locator number : ℕ) (inside : (k : Key) (row : Contents) → IsIn (k, row) (numbered made number (local_rows made locator number (floods own r kept) (addresses own r kept))) → row_at grown k ≡ Some row) where
    abbrev locals : List (Key × Contents)
    locals = numbered made number (local_rows made locator number (floods own r kept) (addresses own r kept))

    no_set : (x : Contents) → IsIn x (map (λ a. address_row a locator) (addresses own r kept)) → x.table ≡ PhysicalLocatorSet → ⊥
    no_set x h is = let clash : UcastMacsLocal ≡ PhysicalLocatorSet = sym (ap (λ (y : Contents). y.table) (in_map (λ a. address_row a locator) x (addresses own r kept) h).2) ∙ is in cc

    local_left : (k : Key) (row : Contents) → IsIn (k, row) locals → row_at after k ≡ Some row
    local_left k row h = by (placed_in made number (local_rows made locator number (floods own r kept) (addresses own r kept)) k row h).1 (in_local made locator number (floods own r kept) (addresses own r kept) row (placed_in made number (local_rows made locator number (floods own r kept) (addresses own r kept)) k row h).0)
      where
        rooted : (t : Table) → k.0 ≡ t → (table_rule t).root ≡ true → row_at after k ≡ Some row
        rooted t is root = root_stays grown k row (ap (λ u. (table_rule u).root) is ∙ root) (inside k row h)

        by : k.0 ≡ row.table → IsLocalRow locator (floods own r kept) (addresses own r kept) row → row_at after k ≡ Some row
        by is (inl set) =
            let found = set_named made locator number (floods own r kept) (map (λ a. address_row a locator) (addresses own r kept)) no_set k row h (is ∙ ap (λ (x : Contents). x.table) set) in
            named_left found.0 found.1 (root_stays grown found.0 found.1 (ap (λ u. (table_rule u).root) found.3) (inside found.0 found.1 found.2)) k row found.4 (inside k row h)
        by is (inr (inl flood)) = rooted McastMacsLocal (is ∙ ap (λ (x : Contents). x.table) flood.3) refl
        by is (inr (inr address)) = rooted UcastMacsLocal (is ∙ ap (λ (x : Contents). x.table) address.2) refl

    namer : (ss : List ℕ) (rest : List Address) → are_none ss rest ≡ false → (q : Key) × (x : Contents) × IsIn (q, x) (numbered made number (local_rows made locator number ss rest)) × (names x (PhysicalLocator, locator) ≡ true)
    namer [] [] none = absurd (true≢false none)
    namer [] (a ∷ rest) some = (
      (UcastMacsLocal, row_id made number),
      address_row a locator,
      inl refl,
      in_any (same_key (PhysicalLocator, locator)) (references (address_row a locator)) (PhysicalLocator, locator) (inr (inl refl)) (itself (PhysicalLocator, locator)),
    )
    namer (s ∷ ss) rest some = (
      (PhysicalLocatorSet, row_id made number),
      set_row locator,
      inl refl,
      in_any (same_key (PhysicalLocator, locator)) (references (set_row locator)) (PhysicalLocator, locator) (inl refl) (itself (PhysicalLocator, locator)),
    )

    locator_left : are_none (floods own r kept) (addresses own r kept) ≡ false → (row : Contents) → row_at grown (PhysicalLocator, locator) ≡ Some row → row_at after (PhysicalLocator, locator) ≡ Some row
    locator_left some row before =
        let found = namer (floods own r kept) (addresses own r kept) some in
        named_left found.0 found.1 (local_left found.0 found.1 found.2) (PhysicalLocator, locator) row found.3 before

  abbrev places_by : Bool → Option ℕ → List (Key × Contents)
  places_by b o = numbered r.made (r.counter + 1) (if b then [] else own_rows own o r (floods own r kept) (addresses own r kept))

  left_by : (b : Bool) → are_none (floods own r kept) (addresses own r kept) ≡ b → (o : Option ℕ) → ((k : Key) (row : Contents) → IsIn (k, row) (places_by b o) → row_at grown k ≡ Some row) → (k : Key) (row : Contents) → IsIn (k, row) (places_by b o)
      → row_at after k ≡ Some row
  left_by true none o inside k row h = absurd h
  left_by false some (Some locator) inside k row h = local_left r.made locator (r.counter + 1) inside k row h
  left_by false some None inside k row (inr later) = local_left r.made (next_id r) (r.counter + 1 + 1) (λ q x g. inside q x (inr g)) k row later
  left_by false some None inside k row (inl same) =
      subst (λ (q : Key). row_at after q ≡ Some row) (sym (ap (λ (e : Key × Contents). e.0) same))
      (locator_left r.made (next_id r) (r.counter + 1 + 1) (λ q x g. inside q x (inr g)) some row
      (subst (λ (q : Key). row_at grown q ≡ Some row) (ap (λ (e : Key × Contents). e.0) same) (inside k row (inl same))))

  new_left : (k : Key) (row : Contents) → IsIn (k, row) places → row_at after k ≡ Some row
  new_left k row h = left_by (are_none (floods own r kept) (addresses own r kept)) refl (own_locator own r) grown_comes k row h

  module _ (old : Rows) (l : List Learnt) (stay : kept ≡ staying old r l) (keyed_addresses : IsKeyed r UcastMacsLocal) (keyed_floods : IsKeyed r McastMacsLocal) where
    pub follows : Follows own old r l after kept
    follows = record {
      stay_learnt = stay;
      addresses = keys_follow UcastMacsLocal (address_keys kept) refl (stale_address r kept) keyed_addresses (addresses_come own r kept single);
      floods = keys_follow McastMacsLocal (flood_keys (bound_switches r)) refl (stale_flood r kept) keyed_floods (floods_come own r kept);
      new = new_left;
      no_other = λ k row there. elim (source k row there) [ inl was ↦ inl (left_was r kept k row was) | inr came ↦ inr came ];
      others = λ k row there other still. is_left k row (grown_stays k row (fresh_stays r kept k row there (other_fresh r kept k.0 row other))) still;
      referenced = λ k there. second_so (maps.has grown.rows k) (stays after.rows k) (sym (exact grown k) ∙ there);
      numbers = numbers_are (fewest r kept) news;
      address = made_is (fewest r kept) news;
    }

  -- ---- nothing else is so

  module _ (old : Rows) (l : List Learnt) (x : Rows) (is : Follows own old r l x kept) where
    not_stale : (t : Table) (i : ℕ) (row : Contents) → row_at x (t, i) ≡ Some row → row_at r (t, i) ≡ Some row → row_at (fewest r kept) (t, i) ≡ Some row
    not_stale UcastMacsLocal i row there was = keeps_key r kept UcastMacsLocal (address_keys kept) (stale_address r kept) i row was (is.addresses.only i row there)
    not_stale McastMacsLocal i row there was = keeps_key r kept McastMacsLocal (flood_keys (bound_switches r)) (stale_flood r kept) i row was (is.floods.only i row there)
    not_stale Global i row there was = fresh_stays r kept (Global, i) row was (other_fresh r kept Global row refl)
    not_stale t i row there was = fresh_stays r kept (t, i) row was (other_fresh r kept t row refl)

    is_grown : (k : Key) (row : Contents) → row_at x k ≡ Some row → row_at grown k ≡ Some row
    is_grown k row there = elim (is.no_other k row there) [
      | inr came ↦ grown_comes k row came
      | inl was ↦ grown_stays k row (not_stale k.0 k.1 row there was)
    ]

    still : (t : Table) (i : ℕ) (row : Contents) → row_at (fewest r kept) (t, i) ≡ Some row → stays x.rows (t, i) ≡ true → row_at x (t, i) ≡ Some row
    still UcastMacsLocal i row there named = is.addresses.kept i row (left_was r kept (UcastMacsLocal, i) row there) (left_has r kept UcastMacsLocal (address_keys kept) (stale_address r kept) i row there)
    still McastMacsLocal i row there named = is.floods.kept i row (left_was r kept (McastMacsLocal, i) row there) (left_has r kept McastMacsLocal (flood_keys (bound_switches r)) (stale_flood r kept) i row there)
    still Global i row there named = is.others (Global, i) row (left_was r kept (Global, i) row there) refl named
    still t i row there named = is.others (t, i) row (left_was r kept (t, i) row there) refl named

    there_so : (k : Key) → maps.has x.rows k ≡ true → (row : Contents) × (row_at x k ≡ Some row)
    there_so k h = by (row_at x k) refl h
      where
        by : (o : Option Contents) → row_at x k ≡ o → is_some o ≡ true → (row : Contents) × (row_at x k ≡ Some row)
        by None e g = absurd (true≢false (sym g))
        by (Some row) e g = (row, e)

    grown_left : (k : Key) → maps.has grown.rows k ≡ true → stays x.rows k ≡ true → maps.has x.rows k ≡ true
    grown_left k h named = by (row_at grown k) refl h
      where
        by : (o : Option Contents) → row_at grown k ≡ o → is_some o ≡ true → maps.has x.rows k ≡ true
        by None e g = absurd (true≢false (sym g))
        by (Some row) e g = elim (grown_was k row e) [
          | inr came ↦ ap is_some (is.new k row came)
          | inl was ↦ ap is_some (still k.0 k.1 row was named)
        ]

    same_rows : x.rows ≡ after.rows
    same_rows = only_one grown x.rows grown_rows (λ k. one_answer (maps.has x.rows k) (maps.has grown.rows k && stays x.rows k)
        (λ h. let found = there_so k h in both (maps.has grown.rows k) (stays x.rows k) (ap is_some (is_grown k found.0 found.1)) (is.referenced k h))
        (λ h. grown_left k (first_so (maps.has grown.rows k) (stays x.rows k) h) (second_so (maps.has grown.rows k) (stays x.rows k) h)))
        (λ k h. let found = there_so k h in found.1 ∙ sym (is_grown k found.0 found.1))

    pub is_after : x ≡ after
    is_after = λ i. record {
      made = (is.address ∙ sym (made_is (fewest r kept) news)) i;
      counter = (is.numbers ∙ sym (numbers_are (fewest r kept) news)) i;
      rows = same_rows i;
    }

-- ---- after a change, whatever individual addresses are learnt

module _ (own : ℕ) (old r : Rows) (before l : List Learnt) (is : IsChanged own old r before) (individual : list_all (λ e. is_individual e.mac) l ≡ true) (small : own < 2 ^ 32) (fits : (followed own old r l).rows.counter ≤ last_number) where
  single : (e : Learnt) → IsIn e (staying old r l) → is_individual e.mac ≡ true
  single e h = all_in (λ e. is_individual e.mac) l e individual (in_filter (stays_learnt old r) l e h).0

  all_fits : (grown_of : Rows) → completed own (without_stale r (staying old r l)) (staying old r l) ≡ grown_of → grown_of.counter ≤ last_number
  all_fits grown_of same = subst (λ (x : Rows). x.counter ≤ last_number) same fits

  pub followed_so : Follows own old r l (followed own old r l).rows (followed own old r l).learned
  followed_so =
      let same = completed_is r (staying old r l) own in
      subst (λ x. Follows own old r l (collected x) (staying old r l)) (sym same)
      (follows own r (staying old r l) small is.after single (all_fits _ same) old l refl (addresses_keyed own old r before is) (floods_keyed own old r before is))

  pub only_followed : (x : Rows) (left : List Learnt) → Follows own old r l x left → (x ≡ (followed own old r l).rows) × (left ≡ (followed own old r l).learned)
  only_followed x left so =
      let same = completed_is r (staying old r l) own in (
        is_after own r (staying old r l) small is.after single (all_fits _ same) old l x (subst (Follows own old r l x) so.stay_learnt so) ∙ ap collected (sym same),
        so.stay_learnt,
      )
