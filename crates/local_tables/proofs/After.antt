-- The Local tables after a commit are those of what stays learnt and of the switches that are bound.
use Rattle.std.proofs.Common.{◌≡◌, ◌⊎◌, inl, inr, ℕ, ◌≤◌, Bool, true, false, not, cond, ◌||◌, List, [], ◌∷◌, length, is_some, Option, Some, None, refl, sym, ap, ◌∙◌, subst, true≢false, arith}
use Rattle.std.specs.List.{filter, list_any}
use Rattle.std.specs.Cmp.{first_so, second_so}
use Rattle.vtep_base.specs.Maps as maps
use Rattle.ovsdb_values.specs.declared.atoms.Atom.{Atom}
use Rattle.vtep_schema.specs.declared.Table.{Table}
use Rattle.vtep_schema.specs.declared.Table.TheVariants.{PhysicalPort, LogicalSwitch, UcastMacsLocal, McastMacsLocal, PhysicalLocatorSet, PhysicalLocator}
use Rattle.vtep_schema.specs.Tables.{table_rule}
use Rattle.vtep_rows.specs.Row.{Contents, references}
use Rattle.vtep_rows.specs.Rows.{Key, Rows, IsRows, row_at, collected, stays, is_named, last_number}
use Rattle.vtep_rows.specs.Sound.{Sound}
use Rattle.vtep_rows.proofs.Entries.{both, all_filter, same_some}
use Rattle.vtep_rows.proofs.Collected.{exact_in, is_collected}
use Rattle.mac_learning.specs.declared.Learnt.{Learnt}
use Rattle.mac_learning.specs.Learning.{same_address, is_once, IsOnce}
use Rattle.forward_program.specs.Built.{IsIn}
use Rattle.forward_program.specs.Follows.{learnt_address}
use Rattle.local_tables.specs.LocalRows.{address_key, flood_key, locator_key, has_key, row_with, is_individual, locator_row, set_row, flood_row}
use Rattle.local_tables.specs.Followed.{is_bound_there, bound_switches, without_stale, own_locator, missing_floods, with_floods}
use Rattle.local_tables.specs.Following.{is_bound, has_flood}
use Rattle.local_tables.specs.Local.{IsAddressRow, IsFloodRow, IsLocal, IsChanged, IsFixed}
use Rattle.local_tables.proofs.Members.{any_in, in_any, all_in, in_all, in_filter, filter_in}
use Rattle.local_tables.proofs.Keyed.{HasKey, IsKeyed, first_has, has_first, sound_keyed}
use Rattle.local_tables.proofs.Same.{SameTable, same_bound_there, same_bound}
use Rattle.local_tables.proofs.Texts.{flood_itself, locator_itself}
use Rattle.local_tables.proofs.LocalLaws.{address_was, flood_was, address_has}
use Rattle.local_tables.proofs.FloodsLaws.{number_in, has_number}
use Rattle.local_tables.proofs.Stale.{Parted, bound_is, kept_holds, floods_in}
use Rattle.local_tables.proofs.Missing.{still_there, was_there, not_stale, bound_same}
use Rattle.local_tables.proofs.Inserted.{IsNew, floods_stay, floods_new, floods_have}

-- ---- each address once

none_kept : (p : Learnt → Bool) (e : Learnt) (es : List Learnt) → list_any (same_address e) es ≡ false → list_any (same_address e) (filter p es) ≡ false
none_kept p e es h = by (list_any (same_address e) (filter p es)) refl
  where
    by : (b : Bool) → list_any (same_address e) (filter p es) ≡ b → list_any (same_address e) (filter p es) ≡ false
    by false g = g
    by true g = let d = any_in (same_address e) (filter p es) g in absurd (true≢false (sym (in_any (same_address e) es d.0 (in_filter p es d.0 d.1).0 d.2) ∙ h))

not_off : (b : Bool) → not b ≡ true → b ≡ false
not_off true h = sym h
not_off false h = refl

not_off_true : (b : Bool) → not b ≡ false → b ≡ true
not_off_true true h = refl
not_off_true false h = sym h

once_kept : (p : Learnt → Bool) (es : List Learnt) → IsOnce es → IsOnce (filter p es)
once_kept p [] h = refl
once_kept p (e ∷ es) h =
    let rest = once_kept p es (second_so (not (list_any (same_address e) es)) (is_once es) h) in
    let none = none_kept p e es (not_off (list_any (same_address e) es) (first_so (not (list_any (same_address e) es)) (is_once es) h)) in
    elim (p e) as (λ b. is_once (cond b (e ∷ filter p es) (filter p es)) ≡ true) [
      | true ↦ both (not (list_any (same_address e) (filter p es))) (is_once (filter p es)) (ap not none) rest
      | false ↦ rest
    ]

-- ---- the rows that a collection leaves

module _ (m : Rows) where
  pub root_stays : (k : Key) (row : Contents) → (table_rule k.0).root ≡ true → row_at m k ≡ Some row → row_at (collected m) k ≡ Some row
  root_stays k row root is =
      (is_collected m).same k
      (exact_in (length m.rows.list) m.rows (omega arith) k ∙ both (maps.has m.rows k) (stays (collected m).rows k) (ap is_some is) (ap (λ b. b || is_named (collected m).rows k) root)) ∙ is

  pub was_left : (k : Key) (row : Contents) → row_at (collected m) k ≡ Some row → row_at m k ≡ Some row
  was_left k row is = sym ((is_collected m).same k (ap is_some is)) ∙ is

-- a row that is there, of sound rows in which another one names it
named_row : (c : Rows) → Sound c → (k : Key) (row : Contents) (q : Key) → row_at c k ≡ Some row → IsIn q (references row) → (named : Contents) × (row_at c q ≡ Some named)
named_row c sound k row q is h = by (row_at c q) refl (all_in (maps.has c.rows) (references row) q (sound.there k row is) h)
  where
    by : (o : Option Contents) → row_at c q ≡ o → is_some o ≡ true → (named : Contents) × (row_at c q ≡ Some named)
    by None e g = absurd (true≢false (sym g))
    by (Some named) e g = (named, e)

-- the only row of a key is the first
the_first : (r : Rows) (t : Table) (key : List Atom) (i : ℕ) → IsKeyed r t → HasKey r t key i → row_with t key r ≡ Some i
the_first r t key i keyed here = by (row_with t key r) refl (has_first r t key i here)
  where
    by : (o : Option ℕ) → row_with t key r ≡ o → is_some o ≡ true → row_with t key r ≡ Some i
    by None e h = absurd (true≢false (sym h))
    by (Some j) e h = e ∙ ap Some (keyed key j i (first_has r t key j e) here)

-- ---- the rows before floods come: those that stay, and the own locator where it is needed

pub record IsBase (own : ℕ) (w u : Rows) (locator : ℕ) (ss : List ℕ) : Type 0 where
  pub rows : IsRows u
  pub stays : (k : Key) (row : Contents) → row_at w k ≡ Some row → row_at u k ≡ Some row
  pub was : (k : Key) (row : Contents) → row_at u k ≡ Some row → (row_at w k ≡ Some row) ⊎ ((k.0 ≡ PhysicalLocator) × (row ≡ locator_row own))
  pub own_there : (s : ℕ) → IsIn s ss → HasKey u PhysicalLocator (locator_key own) locator

module _ (own : ℕ) (old r : Rows) (l : List Learnt) (is : IsChanged own old r l) (keeps : Learnt → Bool) (gone : List Learnt) (unbound_ones : List ℕ) (parted : Parted old r l keeps gone unbound_ones) where
  abbrev kept : List Learnt
  kept = filter keeps l

  abbrev fewest : Rows
  fewest = without_stale r kept

  abbrev gained : List ℕ
  gained = missing_floods fewest

  module _ (u : Rows) (locator : ℕ) (base : IsBase own fewest u locator gained) where
    abbrev grown : Rows
    grown = with_floods locator u gained

    abbrev after : Rows
    after = collected grown

    module _ (fits : grown.counter ≤ last_number) (sound : Sound after) (ports : SameTable PhysicalPort after r) (fixed : IsFixed old r) where
      -- ---- where a row after it comes from

      abbrev Source : Key → Contents → Type 0
      Source k row = (row_at fewest k ≡ Some row) ⊎ (((k.0 ≡ PhysicalLocator) × (row ≡ locator_row own)) ⊎ IsNew locator grown gained k row)

      source : (k : Key) (row : Contents) → row_at after k ≡ Some row → Source k row
      source k row there = elim (floods_new locator u gained base.rows fits k row (was_left grown k row there)) [
        | inr new ↦ inr (inr new)
        | inl before ↦ elim (base.was k row before) [ inl still ↦ inl still | inr own_row ↦ inr (inl own_row) ]
      ]

      grown_has : (k : Key) (row : Contents) → row_at fewest k ≡ Some row → row_at grown k ≡ Some row
      grown_has k row there = floods_stay locator u gained base.rows fits k row (base.stays k row there)

      root_there : (k : Key) (row : Contents) → (table_rule k.0).root ≡ true → row_at fewest k ≡ Some row → row_at after k ≡ Some row
      root_there k row root there = root_stays grown k row root (grown_has k row there)

      -- ---- bound switches

      switches_same : SameTable LogicalSwitch after r
      switches_same i = by (row_at r (LogicalSwitch, i)) refl (row_at after (LogicalSwitch, i)) refl
        where
          never : (row : Contents) → Source (LogicalSwitch, i) row → row_at r (LogicalSwitch, i) ≡ Some row
          never row (inl before) = was_there own old r l is keeps (LogicalSwitch, i) row before
          never row (inr (inl own_row)) = let clash : LogicalSwitch ≡ PhysicalLocator = own_row.0 in absurd (cc)
          never row (inr (inr (inl set))) = let clash : LogicalSwitch ≡ PhysicalLocatorSet = set.table in absurd (cc)
          never row (inr (inr (inr flood))) = let clash : LogicalSwitch ≡ McastMacsLocal = flood.table in absurd (cc)

          by : (o : Option Contents) → row_at r (LogicalSwitch, i) ≡ o → (p : Option Contents) → row_at after (LogicalSwitch, i) ≡ p → row_at after (LogicalSwitch, i) ≡ row_at r (LogicalSwitch, i)
          by (Some row) e p f = root_there (LogicalSwitch, i) row refl (still_there own old r l is keeps (LogicalSwitch, i) row e refl) ∙ sym e
          by None e None f = f ∙ sym e
          by None e (Some row) f = f ∙ sym (never row (source (LogicalSwitch, i) row f))

      bound_after : (s : ℕ) → is_bound after s ≡ is_bound r s
      bound_after s = same_bound after r ports switches_same s

      -- ---- the own locator

      own_is : (i : ℕ) → HasKey after PhysicalLocator (locator_key own) i → own_locator own after ≡ Some i
      own_is i here = the_first after PhysicalLocator (locator_key own) i (sound_keyed after PhysicalLocator sound) here

      -- a row of a locator table of before is what it was
      fixed_row : (t : Table) (i : ℕ) (was row : Contents) → ((i : ℕ) (row : Contents) → row_at r (t, i) ≡ Some row → (row_at old (t, i) ≡ Some row) ⊎ (row_at old (t, i) ≡ None)) → row_at old (t, i) ≡ Some was → row_at r (t, i) ≡ Some row → row ≡ was
      fixed_row t i was row stay before now = elim (stay i row now) [
        | inl same ↦ same_some row was (sym same ∙ before)
        | inr none ↦ (let clash : ◌≡◌ {A = Option Contents} None (Some was) = sym none ∙ before in absurd (cc))
      ]

      old_locator : (k : Key) (row : Contents) (i : ℕ) → own_locator own old ≡ Some i → row_at after k ≡ Some row → IsIn (PhysicalLocator, i) (references row) → own_locator own after ≡ Some i
      old_locator k row i at_own there names = own_is i (by (source (PhysicalLocator, i) named.0 named.1))
        where
          named : (x : Contents) × (row_at after (PhysicalLocator, i) ≡ Some x)
          named = named_row after sound k row (PhysicalLocator, i) there names

          was : HasKey old PhysicalLocator (locator_key own) i
          was = first_has old PhysicalLocator (locator_key own) i at_own

          by : Source (PhysicalLocator, i) named.0 → HasKey after PhysicalLocator (locator_key own) i
          by (inl here) = record {
            row = named.0;
            there = named.1;
            held =
                ap (has_key PhysicalLocator (locator_key own)) (fixed_row PhysicalLocator i was.row named.0 fixed.locators was.there (was_there own old r l is keeps (PhysicalLocator, i) named.0 here)) ∙ was.held;
          }
          by (inr (inl own_row)) = record { row = named.0; there = named.1; held = ap (has_key PhysicalLocator (locator_key own)) own_row.1 ∙ locator_itself own }
          by (inr (inr (inl set))) = let clash : PhysicalLocator ≡ PhysicalLocatorSet = set.table in absurd (cc)
          by (inr (inr (inr flood))) = let clash : PhysicalLocator ≡ McastMacsLocal = flood.table in absurd (cc)

      new_locator : (s : ℕ) → IsIn s gained → (k : Key) (row : Contents) → row_at after k ≡ Some row → IsIn (PhysicalLocator, locator) (references row) → own_locator own after ≡ Some locator
      new_locator s h k row there names =
          let named = named_row after sound k row (PhysicalLocator, locator) there names in
          let own_row = base.own_there s h in
          let same : named.0 ≡ own_row.row =
          same_some named.0 own_row.row (sym (was_left grown (PhysicalLocator, locator) named.0 named.1) ∙ floods_stay locator u gained base.rows fits (PhysicalLocator, locator) own_row.row own_row.there) in
          own_is locator (record { row = named.0; there = named.1; held = ap (has_key PhysicalLocator (locator_key own)) same ∙ own_row.held })

      -- ---- the rows of learnt addresses

      address_after : (i : ℕ) (row : Contents) → row_at after (UcastMacsLocal, i) ≡ Some row → IsAddressRow own after kept row
      address_after i row there = by (source (UcastMacsLocal, i) row there)
        where
          by : Source (UcastMacsLocal, i) row → IsAddressRow own after kept row
          by (inr (inl own_row)) = let clash : UcastMacsLocal ≡ PhysicalLocator = own_row.0 in absurd (cc)
          by (inr (inr (inl set))) = let clash : UcastMacsLocal ≡ PhysicalLocatorSet = set.table in absurd (cc)
          by (inr (inr (inr flood))) = let clash : UcastMacsLocal ≡ McastMacsLocal = flood.table in absurd (cc)
          by (inl here) =
              let was = address_was own old r l is i row (was_there own old r l is keeps (UcastMacsLocal, i) row here) in record {
                entry = was.entry;
                learnt = filter_in keeps l was.entry was.learnt (sym (kept_holds own old r l is keeps gone unbound_ones parted row was) ∙ fresh row here);
                locator = was.locator;
                at_own = old_locator (UcastMacsLocal, i) row was.locator was.at_own there (subst (λ x. IsIn (PhysicalLocator, was.locator) (references x)) (sym was.row_is) (inr (inl refl)));
                row_is = was.row_is;
              }
            where
              fresh : (row : Contents) → row_at fewest (UcastMacsLocal, i) ≡ Some row → list_any (λ e. has_key UcastMacsLocal (address_key (learnt_address e)) row) kept ≡ true
              fresh row here = not_off_true (list_any (λ e. has_key UcastMacsLocal (address_key (learnt_address e)) row) kept) (not_stale own old r l is keeps (UcastMacsLocal, i) row here)

      each_after : (e : Learnt) → IsIn e kept → is_some (row_with UcastMacsLocal (address_key (learnt_address e)) after) ≡ true
      each_after e h =
          let here = address_has own old r l is e (in_filter keeps l e h).0 in
          has_first after UcastMacsLocal (address_key (learnt_address e)) here.0 (record {
            row = here.1.row;
            there =
                root_there (UcastMacsLocal, here.0) here.1.row refl
                (still_there own old r l is keeps (UcastMacsLocal, here.0) here.1.row here.1.there (ap not (in_any (λ e. has_key UcastMacsLocal (address_key (learnt_address e)) here.1.row) kept e h here.1.held)));
            held = here.1.held;
          })

      -- ---- the rows of bound switches

      set_left : (k : Key) (row : Contents) (set : ℕ) (x : Contents) → row_at after k ≡ Some row → IsIn (PhysicalLocatorSet, set) (references row) → row_at grown (PhysicalLocatorSet, set) ≡ Some x → row_at after (PhysicalLocatorSet, set) ≡ Some x
      set_left k row set x there names is_x =
          let named = named_row after sound k row (PhysicalLocatorSet, set) there names in
          named.1 ∙ ap Some (same_some named.0 x (sym (was_left grown (PhysicalLocatorSet, set) named.0 named.1) ∙ is_x))

      bound_gained : (s : ℕ) → IsIn s gained → is_bound r s ≡ true
      bound_gained s h =
          let listed = in_filter (λ s. not (is_some (row_with McastMacsLocal (flood_key s) fewest))) (bound_switches fewest) s h in
          sym (bound_same own old r l is keeps s) ∙ sym (bound_is fewest s) ∙ has_number (bound_switches fewest) s listed.0

      -- the set of a row of before
      old_set : (set at : ℕ) (x : Contents) → row_at old (PhysicalLocatorSet, set) ≡ Some (set_row at) → own_locator own old ≡ Some at → row_at after (PhysicalLocatorSet, set) ≡ Some x → Source (PhysicalLocatorSet, set) x → (j : ℕ) × (own_locator own after ≡ Some j) × (x ≡ set_row j)
      old_set set at x before at_own here (inl still) =
          let same = fixed_row PhysicalLocatorSet set (set_row at) x fixed.sets before (was_there own old r l is keeps (PhysicalLocatorSet, set) x still) in
          (at, old_locator (PhysicalLocatorSet, set) x at at_own here (subst (λ y. IsIn (PhysicalLocator, at) (references y)) (sym same) (inl refl)), same)
      old_set set at x before at_own here (inr (inl own_row)) = let clash : PhysicalLocatorSet ≡ PhysicalLocator = own_row.0 in absurd (cc)
      old_set set at x before at_own here (inr (inr (inl new))) =
          (locator, new_locator new.switch new.bound (PhysicalLocatorSet, set) x here (subst (λ y. IsIn (PhysicalLocator, locator) (references y)) (sym new.row_is) (inl refl)), new.row_is)
      old_set set at x before at_own here (inr (inr (inr flood))) = let clash : PhysicalLocatorSet ≡ McastMacsLocal = flood.table in absurd (cc)

      flood_by : (i : ℕ) (row : Contents) → row_at after (McastMacsLocal, i) ≡ Some row → Source (McastMacsLocal, i) row → IsFloodRow own after row
      flood_by i row there (inr (inl own_row)) = let clash : McastMacsLocal ≡ PhysicalLocator = own_row.0 in absurd (cc)
      flood_by i row there (inr (inr (inl set))) = let clash : McastMacsLocal ≡ PhysicalLocatorSet = set.table in absurd (cc)
      flood_by i row there (inr (inr (inr flood))) =
          let set_at = set_left (McastMacsLocal, i) row flood.set (set_row locator) there (subst (λ y. IsIn (PhysicalLocatorSet, flood.set) (references y)) (sym flood.row_is) (inr (inl refl))) flood.set_is in record {
            switch = flood.switch;
            bound = bound_after flood.switch ∙ bound_gained flood.switch flood.bound;
            set = flood.set;
            locator = locator;
            at_own = new_locator flood.switch flood.bound (PhysicalLocatorSet, flood.set) (set_row locator) set_at (inl refl);
            set_is = set_at;
            row_is = flood.row_is;
          }
      flood_by i row there (inl here) =
          let was = flood_was own old r l is i row (was_there own old r l is keeps (McastMacsLocal, i) row here) in
          let fresh : list_any (λ s. has_key McastMacsLocal (flood_key s) row) (bound_switches r) ≡ true = not_off_true (list_any (λ s. has_key McastMacsLocal (flood_key s) row) (bound_switches r)) (not_stale own old r l is keeps (McastMacsLocal, i) row here) in
          let named = named_row after sound (McastMacsLocal, i) row (PhysicalLocatorSet, was.set) there (subst (λ y. IsIn (PhysicalLocatorSet, was.set) (references y)) (sym was.row_is) (inr (inl refl))) in
          let own_set = old_set was.set was.locator named.0 was.set_is was.at_own named.1 (source (PhysicalLocatorSet, was.set) named.0 named.1) in record {
            switch = was.switch;
            bound = bound_after was.switch ∙ sym (bound_is r was.switch) ∙ sym (floods_in own old r l is keeps gone unbound_ones parted row was (bound_switches r)) ∙ fresh;
            set = was.set;
            locator = own_set.0;
            at_own = own_set.1;
            set_is = named.1 ∙ ap Some own_set.2;
            row_is = was.row_is;
          }

      each_flood_after : (s : ℕ) → is_bound after s ≡ true → has_flood after s ≡ true
      each_flood_after s bound = by (row_with McastMacsLocal (flood_key s) fewest) refl
        where
          before : is_bound fewest s ≡ true
          before = bound_same own old r l is keeps s ∙ sym (bound_after s) ∙ bound

          by : (o : Option ℕ) → row_with McastMacsLocal (flood_key s) fewest ≡ o → has_flood after s ≡ true
          by (Some i) e =
              let here = first_has fewest McastMacsLocal (flood_key s) i e in
              has_first after McastMacsLocal (flood_key s) i (record { row = here.row; there = root_there (McastMacsLocal, i) here.row refl here.there; held = here.held })
          by None e =
              let listed = filter_in (λ s. not (is_some (row_with McastMacsLocal (flood_key s) fewest))) (bound_switches fewest) s (number_in (bound_switches fewest) s (bound_is fewest s ∙ before)) (ap (λ o. not (is_some o)) e) in
              let new = floods_have locator u gained base.rows fits s listed in
              has_first after McastMacsLocal (flood_key s) new.0 (record { row = flood_row s new.1; there = root_stays grown (McastMacsLocal, new.0) (flood_row s new.1) refl new.2; held = flood_itself s new.1 })

      pub local_after : ((e : Learnt) → IsIn e kept → is_bound_there r e ≡ true) → IsLocal own after kept
      local_after bound = record {
        once = once_kept keeps l is.local.once;
        individual = all_filter (λ e. is_individual e.mac) keeps l is.local.individual;
        bound = in_all (is_bound_there after) kept (λ e h. same_bound_there after r ports e ∙ bound e h);
        address_rows = address_after;
        each_address = in_all (λ e. is_some (row_with UcastMacsLocal (address_key (learnt_address e)) after)) kept each_after;
        flood_rows = λ i row there. flood_by i row there (source (McastMacsLocal, i) row there);
        each_flood = each_flood_after;
      }
