-- A commit that is accepted keeps the Local tables those of what is learnt and of the switches that are bound.
use Rattle.std.proofs.Common.{◌≡◌, inl, inr, ℕ, ◌+◌, ◌<◌, ◌≤◌, ◌^◌, Bool, true, not, List, [], ◌∷◌, Option, Some, None, refl, sym, ap, ◌∙◌, subst, arith}
use Rattle.std.specs.List.{filter}
use Rattle.std.specs.Cmp.{first_so}
use Rattle.vtep_schema.specs.declared.Table.TheVariants.{PhysicalPort, PhysicalLocator}
use Rattle.vtep_schema.specs.Tables.{same_table}
use Rattle.vtep_rows.specs.Row.{is_row}
use Rattle.vtep_rows.specs.Rows.{Key, Rows, IsRows, next_id, inserted, is_given, collected, last_number}
use Rattle.vtep_rows.specs.Sound.{Sound}
use Rattle.vtep_rows.proofs.Entries.{all_filter}
use Rattle.vtep_rows.proofs.Kept.{still_inserted}
use Rattle.mac_learning.specs.declared.Learnt.{Learnt}
use Rattle.forward_program.specs.Built.{IsIn}
use Rattle.local_tables.specs.LocalRows.{locator_key, locator_row}
use Rattle.local_tables.specs.Followed.{picked, is_bound_there, is_claimed, stays, without_stale, own_locator, located, locator_of, missing_floods, with_floods, completed_by, completed, followed}
use Rattle.local_tables.specs.Local.{IsLocal, IsChanged, IsFixed}
use Rattle.local_tables.proofs.Members.{in_filter}
use Rattle.local_tables.proofs.Keyed.{first_has}
use Rattle.local_tables.proofs.Same.{SameTable}
use Rattle.local_tables.proofs.Texts.{locator_itself}
use Rattle.local_tables.proofs.RowsMade.{locator_is_row}
use Rattle.local_tables.proofs.Versioned.{floods_number}
use Rattle.local_tables.proofs.Stale.{Parted}
use Rattle.local_tables.proofs.Missing.{none_missing}
use Rattle.local_tables.proofs.FollowIs.{change_parts}
use Rattle.local_tables.proofs.Inserted.{was_or_new, stays_there, new_there}
use Rattle.local_tables.proofs.After.{IsBase, local_after}

pub still_picked : (p : Key → Bool) (r : Rows) → IsRows r → IsRows (picked p r)
still_picked p r rows = record {
  tables = all_filter (λ e. same_table e.0.0 e.1.table) (λ e. p e.0) r.rows.list rows.tables;
  identifiers = all_filter (λ e. is_given r e.0.1) (λ e. p e.0) r.rows.list rows.identifiers;
  contents = all_filter (λ e. is_row e.1) (λ e. p e.0) r.rows.list rows.contents;
  count = rows.count;
  address = rows.address;
}

-- rows that are completed are a base with floods
pub record Grows (own : ℕ) (w after : Rows) (ss : List ℕ) : Type 0 where
  pub base : Rows
  pub locator : ℕ
  pub is_base : IsBase own w base locator ss
  pub after_is : after ≡ with_floods locator base ss

module _ (own : ℕ) (w : Rows) (rows : IsRows w) (small : own < 2 ^ 32) where
  none_come : (ss : List ℕ) → ss ≡ [] → Grows own w w ss
  none_come ss none = record {
    base = w;
    locator = 0;
    is_base = record { rows = rows; stays = λ k row there. there; was = λ k row there. inl there; own_there = λ s h. absurd (subst (IsIn s) none h) };
    after_is = ap (with_floods 0 w) (sym none);
  }

  some_come : (o : Option ℕ) → own_locator own w ≡ o → (ss : List ℕ) → (with_floods (locator_of o w) (located own o w) ss).counter ≤ last_number → Grows own w (with_floods (locator_of o w) (located own o w) ss) ss
  some_come (Some locator) there ss fits = record {
    base = w;
    locator = locator;
    is_base = record { rows = rows; stays = λ k row there. there; was = λ k row there. inl there; own_there = λ s h. first_has w PhysicalLocator (locator_key own) locator there };
    after_is = refl;
  }
  some_come None none ss fits =
      let number : w.counter + 1 ≤ (with_floods (next_id w) (inserted w (locator_row own)) ss).counter = floods_number (next_id w) (inserted w (locator_row own)) ss in
      let room : w.counter < last_number = omega (arith, number, fits) in record {
        base = inserted w (locator_row own);
        locator = next_id w;
        is_base = record {
          rows = still_inserted w (locator_row own) rows room (locator_is_row own small);
          stays = stays_there w (locator_row own) rows room;
          was = λ k row there. elim (was_or_new w (locator_row own) k row there) [
            | inl before ↦ inl before
            | inr new ↦ inr (ap (λ (q : Key). q.0) new.0, new.1)
          ];
          own_there = λ s h. record { row = locator_row own; there = new_there w (locator_row own); held = locator_itself own };
        };
        after_is = refl;
      }

  pub grows : (ss : List ℕ) → (completed_by own (own_locator own w) ss [] w).counter ≤ last_number → Grows own w (completed_by own (own_locator own w) ss [] w) ss
  grows [] fits = none_come [] refl
  grows (s ∷ ss) fits = some_come (own_locator own w) refl (s ∷ ss) fits

module _ (own : ℕ) (old r : Rows) (l : List Learnt) (is : IsChanged own old r l) (keeps : Learnt → Bool) (gone : List Learnt) (unbound_ones : List ℕ) (parted : Parted old r l keeps gone unbound_ones) (small : own < 2 ^ 32) where
  abbrev kept : List Learnt
  kept = filter keeps l

  abbrev fewest : Rows
  fewest = without_stale r kept

  abbrev after : Rows
  after = completed own fewest kept

  no_address : after ≡ completed_by own (own_locator own fewest) (missing_floods fewest) [] fewest
  no_address = ap (λ addresses. completed_by own (own_locator own fewest) (missing_floods fewest) addresses fewest) (none_missing own old r l is keeps)

  pub kept_local : after.counter ≤ last_number → Sound (collected after) → SameTable PhysicalPort (collected after) r → IsFixed old r → ((e : Learnt) → IsIn e kept → is_bound_there r e ≡ true) → IsLocal own (collected after) kept
  kept_local fits sound ports fixed bound =
      let g = grows own fewest (still_picked _ r is.after) small (missing_floods fewest) (subst (λ (x : Rows). x.counter ≤ last_number) no_address fits) in
      let same : after ≡ with_floods g.locator g.base (missing_floods fewest) = no_address ∙ g.after_is in
      subst (λ x. IsLocal own (collected x) kept) (sym same)
      (local_after own old r l is keeps gone unbound_ones parted g.base g.locator g.is_base (subst (λ (x : Rows). x.counter ≤ last_number) same fits) (subst (λ x. Sound (collected x)) same sound)
      (subst (λ x. SameTable PhysicalPort (collected x) r) same ports) fixed bound)

-- a change of the rows
pub followed_local : (own : ℕ) (old r : Rows) (l : List Learnt) → IsChanged own old r l → own < 2 ^ 32 → (followed own old r l).rows.counter ≤ last_number → Sound (followed own old r l).rows → SameTable PhysicalPort (followed own old r l).rows r → IsFixed old r
    → IsLocal own (followed own old r l).rows (followed own old r l).learned
followed_local own old r l is small fits sound ports fixed =
    kept_local own old r l is (stays old r) _ _ (change_parts own old r l is) small fits sound ports fixed (λ e h. first_so (is_bound_there r e) (not (is_claimed old r e)) (in_filter (stays old r) l e h).1)
