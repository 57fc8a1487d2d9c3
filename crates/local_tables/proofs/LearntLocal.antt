-- Learning an address that is not known keeps the Local tables those of what is learnt and of the switches that are bound.
use Rattle.std.proofs.Common.{◌≡◌, inl, inr, ℕ, ◌<◌, Bool, true, false, not, cond, ◌||◌, List, [], ◌∷◌, ◌++◌, is_some, Some, None, refl, sym, ap, ◌∙◌, true≢false}
use Rattle.std.proofs.lemmas.List.Folds.{list_all-append}
use Rattle.std.specs.List.{list_all, list_any}
use Rattle.std.specs.Ordering.{eq_by_cmp}
use Rattle.std.specs.Cmp.{first_so, second_so}
use Rattle.vtep_base.specs.Maps as maps
use Rattle.vtep_schema.specs.declared.Table.{Table}
use Rattle.vtep_schema.specs.declared.Table.TheVariants.{PhysicalPort, LogicalSwitch, UcastMacsLocal, McastMacsLocal, PhysicalLocatorSet, PhysicalLocator}
use Rattle.vtep_schema.specs.Tables.{same_table}
use Rattle.vtep_rows.specs.Row.{Contents}
use Rattle.vtep_rows.specs.Rows.{Rows, Key, key_cmp, row_at, inserted, last_number}
use Rattle.vtep_rows.specs.Orders.{key_total}
use Rattle.vtep_rows.proofs.Entries.{both}
use Rattle.vtep_rows.proofs.Restored.{tied}
use Rattle.mac_learning.specs.declared.Learnt.{Learnt}
use Rattle.mac_learning.specs.Learning.{is_of, same_address, is_once, IsOnce, found}
use Rattle.mac_learning.proofs.KeptLemmas.{of_address}
use Rattle.forward_program.specs.Built.{IsIn}
use Rattle.forward_program.specs.Follows.{learnt_address}
use Rattle.forward_program.proofs.InLists.{in_front, in_back, in_either}
use Rattle.local_tables.specs.LocalRows.{address_key, flood_key, locator_key, has_key, row_with, is_individual, address_row}
use Rattle.local_tables.specs.Followed.{is_bound_there, own_locator}
use Rattle.local_tables.specs.Local.{IsAddressRow, IsFloodRow, IsLocal, IsLearning}
use Rattle.local_tables.proofs.Members.{all_in, in_all}
use Rattle.local_tables.proofs.Keyed.{has_first}
use Rattle.local_tables.proofs.Same.{SameTable, same_with, same_bound_there, same_bound}
use Rattle.local_tables.proofs.Texts.{address_itself}
use Rattle.local_tables.proofs.LocalLaws.{same_is, address_was, flood_was, address_has}
use Rattle.local_tables.proofs.Inserted.{place, new_there, was_or_new, stays_there}

-- ---- one address more

not_found : (s a : ℕ) (l : List Learnt) → found s a l ≡ None → list_any (is_of s a) l ≡ false
not_found s a [] none = refl
not_found s a (e ∷ l) none = by (is_of s a e) none (not_found s a l)
  where
    by : (b : Bool) → cond b (Some e) (found s a l) ≡ None → (found s a l ≡ None → list_any (is_of s a) l ≡ false) → (b || list_any (is_of s a) l) ≡ false
    by true e rest = cc
    by false e rest = rest e

turned_off : (d e : Learnt) → same_address e d ≡ false → same_address d e ≡ false
turned_off d e h = by (same_address d e) refl
  where
    by : (b : Bool) → same_address d e ≡ b → same_address d e ≡ false
    by false g = g
    by true g = let parts = of_address d.switch d.mac e g in absurd (true≢false (sym (same_is e d (sym parts.0) (sym parts.1)) ∙ h))

none_more : (e new : Learnt) (l : List Learnt) → list_any (same_address e) l ≡ false → same_address e new ≡ false → list_any (same_address e) (l ++ new ∷ []) ≡ false
none_more e new [] h g = ap (λ b. b || false) g
none_more e new (d ∷ l) h g = by (same_address e d) h (none_more e new l)
  where
    by : (b : Bool) → (b || list_any (same_address e) l) ≡ false → (list_any (same_address e) l ≡ false → same_address e new ≡ false → list_any (same_address e) (l ++ new ∷ []) ≡ false) → (b || list_any (same_address e) (l ++ new ∷ [])) ≡ false
    by true h rest = absurd (true≢false h)
    by false h rest = rest h g

not_off : (b : Bool) → not b ≡ true → b ≡ false
not_off true h = sym h
not_off false h = refl

or_first : (a b : Bool) → (a || b) ≡ false → a ≡ false
or_first true b h = absurd (true≢false h)
or_first false b h = refl

or_second : (a b : Bool) → (a || b) ≡ false → b ≡ false
or_second true b h = absurd (true≢false h)
or_second false b h = h

pub once_more : (new : Learnt) (l : List Learnt) → IsOnce l → list_any (same_address new) l ≡ false → IsOnce (l ++ new ∷ [])
once_more new [] h g = refl
once_more new (e ∷ l) h g =
    let apart = turned_off e new (or_first (same_address new e) (list_any (same_address new) l) g) in
    let alone = not_off (list_any (same_address e) l) (first_so (not (list_any (same_address e) l)) (is_once l) h) in
    both (not (list_any (same_address e) (l ++ new ∷ []))) (is_once (l ++ new ∷ [])) (ap not (none_more e new l alone apart))
    (once_more new l (second_so (not (list_any (same_address e) l)) (is_once l) h) (or_second (same_address new e) (list_any (same_address new) l) g))

-- ---- one row more

module _ (own : ℕ) (r : Rows) (l : List Learnt) (new : Learnt) (locator : ℕ) (is : IsLearning own r l new) (at_own : own_locator own r ≡ Some locator) (room : r.counter < last_number) where
  abbrev row_added : Contents
  row_added = address_row (learnt_address new) locator

  abbrev after : Rows
  after = inserted r row_added

  abbrev all : List Learnt
  all = l ++ new ∷ []

  others_same : (t : Table) → same_table t UcastMacsLocal ≡ false → SameTable t after r
  others_same t apart i = maps.get-insert key_total r.rows (place r row_added) row_added (t, i) ∙ by (eq_by_cmp key_cmp (t, i) (place r row_added)) refl
    where
      by : (b : Bool) → eq_by_cmp key_cmp (t, i) (place r row_added) ≡ b → cond b (Some row_added) (row_at r (t, i)) ≡ row_at r (t, i)
      by false e = refl
      by true e = absurd (true≢false (sym (ap (λ (k : Key). same_table k.0 UcastMacsLocal) (tied (t, i) (place r row_added) e)) ∙ apart))

  own_same : own_locator own after ≡ Some locator
  own_same = same_with PhysicalLocator after r (others_same PhysicalLocator refl) (locator_key own) ∙ at_own

  address_after : (i : ℕ) (row : Contents) → row_at after (UcastMacsLocal, i) ≡ Some row → IsAddressRow own after all row
  address_after i row there = elim (was_or_new r row_added (UcastMacsLocal, i) row there) [
    | inl before ↦
        (let was = address_was own r r l is.unchanged i row before in
        let same : Some was.locator ≡ Some locator = sym was.at_own ∙ at_own in
        record { entry = was.entry; learnt = in_front was.entry l (new ∷ []) was.learnt; locator = was.locator; at_own = own_same ∙ sym same; row_is = was.row_is })
    | inr came ↦ record { entry = new; learnt = in_back new l (new ∷ []) (inl refl); locator = locator; at_own = own_same; row_is = came.1 }
  ]

  flood_after : (i : ℕ) (row : Contents) → row_at after (McastMacsLocal, i) ≡ Some row → IsFloodRow own after row
  flood_after i row there =
      let was = flood_was own r r l is.unchanged i row (sym (others_same McastMacsLocal refl i) ∙ there) in
      let same : Some was.locator ≡ Some locator = sym was.at_own ∙ at_own in record {
        switch = was.switch;
        bound = same_bound after r (others_same PhysicalPort refl) (others_same LogicalSwitch refl) was.switch ∙ was.bound;
        set = was.set;
        locator = was.locator;
        at_own = own_same ∙ sym same;
        set_is = others_same PhysicalLocatorSet refl was.set ∙ was.set_is;
        row_is = was.row_is;
      }

  has_after : (e : Learnt) → IsIn e all → is_some (row_with UcastMacsLocal (address_key (learnt_address e)) after) ≡ true
  has_after e h = elim (in_either e l (new ∷ []) h) [
    | inl before ↦
        (let here = address_has own r r l is.unchanged e before in
        has_first after UcastMacsLocal (address_key (learnt_address e)) here.0
        (record { row = here.1.row; there = stays_there r row_added is.unchanged.after room (UcastMacsLocal, here.0) here.1.row here.1.there; held = here.1.held }))
    | inr (inl same) ↦
        has_first after UcastMacsLocal (address_key (learnt_address e)) (place r row_added).1
        (record { row = row_added; there = new_there r row_added; held = ap (λ x. has_key UcastMacsLocal (address_key (learnt_address x)) row_added) same ∙ address_itself (learnt_address new) locator })
    | inr (inr never) ↦ absurd never
  ]

  bound_after : (e : Learnt) → IsIn e all → is_bound_there after e ≡ true
  bound_after e h = same_bound_there after r (others_same PhysicalPort refl) e ∙ elim (in_either e l (new ∷ []) h) [
    | inl before ↦ all_in (is_bound_there r) l e is.unchanged.local.bound before
    | inr (inl same) ↦ ap (is_bound_there r) same ∙ is.bound
    | inr (inr never) ↦ absurd never
  ]

  pub learnt_local : IsLocal own after all
  learnt_local = record {
    once = once_more new l is.unchanged.local.once (not_found new.switch new.mac l is.unknown);
    individual = list_all-append (λ e. is_individual e.mac) l (new ∷ []) ∙ both (list_all (λ e. is_individual e.mac) l) _ is.unchanged.local.individual (both (is_individual new.mac) true is.individual refl);
    bound = in_all (is_bound_there after) all bound_after;
    address_rows = address_after;
    each_address = in_all (λ e. is_some (row_with UcastMacsLocal (address_key (learnt_address e)) after)) all has_after;
    flood_rows = flood_after;
    each_flood = λ s bound.
        ap is_some (same_with McastMacsLocal after r (others_same McastMacsLocal refl) (flood_key s))
        ∙ is.unchanged.local.each_flood s (sym (same_bound after r (others_same PhysicalPort refl) (others_same LogicalSwitch refl) s) ∙ bound);
  }
