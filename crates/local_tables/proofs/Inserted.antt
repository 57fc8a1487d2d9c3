-- What is there once the rows of bound switches came.
use Rattle.std.proofs.Common.{◌≡◌, ◌⊎◌, inl, inr, ℕ, ◌+◌, ◌<◌, ◌≤◌, Bool, true, false, cond, List, [], ◌∷◌, Option, Some, None, refl, sym, ap, ◌∙◌, arith}
use Rattle.std.specs.Ordering.{eq_by_cmp}
use Rattle.vtep_base.specs.Maps as maps
use Rattle.vtep_schema.specs.declared.Table.TheVariants.{McastMacsLocal, PhysicalLocatorSet}
use Rattle.vtep_rows.specs.Row.{Contents}
use Rattle.vtep_rows.specs.Rows.{Key, key_cmp, Rows, IsRows, row_at, next_id, inserted, last_number}
use Rattle.vtep_rows.specs.Orders.{key_total}
use Rattle.vtep_rows.proofs.Entries.{same_some}
use Rattle.vtep_rows.proofs.Kept.{is_fresh, still_inserted}
use Rattle.vtep_rows.proofs.IndexLaws.{put_there}
use Rattle.vtep_rows.proofs.Restored.{tied}
use Rattle.forward_program.specs.Built.{IsIn}
use Rattle.local_tables.specs.LocalRows.{set_row, flood_row}
use Rattle.local_tables.specs.Followed.{with_flood, with_floods}
use Rattle.local_tables.proofs.Versioned.{floods_number}

-- ---- one row

module _ (r : Rows) (new : Contents) where
  abbrev pub place : Key
  place = (new.table, next_id r)

  pub new_there : row_at (inserted r new) place ≡ Some new
  new_there = put_there r.rows place new

  pub was_or_new : (k : Key) (row : Contents) → row_at (inserted r new) k ≡ Some row → (row_at r k ≡ Some row) ⊎ ((k ≡ place) × (row ≡ new))
  was_or_new k row is = by (eq_by_cmp key_cmp k place) refl (sym (maps.get-insert key_total r.rows place new k) ∙ is)
    where
      by : (b : Bool) → eq_by_cmp key_cmp k place ≡ b → cond b (Some new) (row_at r k) ≡ Some row → (row_at r k ≡ Some row) ⊎ ((k ≡ place) × (row ≡ new))
      by true tie h = inr (tied k place tie, sym (same_some new row h))
      by false apart h = inl h

  pub stays_there : IsRows r → r.counter < last_number → (k : Key) (row : Contents) → row_at r k ≡ Some row → row_at (inserted r new) k ≡ Some row
  stays_there rows room k row is = maps.get-insert key_total r.rows place new k ∙ by (eq_by_cmp key_cmp k place) refl
    where
      by : (b : Bool) → eq_by_cmp key_cmp k place ≡ b → cond b (Some new) (row_at r k) ≡ Some row
      by true tie = let clash : ◌≡◌ {A = Option Contents} None (Some row) = sym (is_fresh r rows room new.table) ∙ ap (row_at r) (sym (tied k place tie)) ∙ is in cc
      by false apart = is

-- ---- the rows of one switch

module _ (locator : ℕ) (r : Rows) (s : ℕ) (rows : IsRows r) (room : r.counter + 1 < last_number) where
  abbrev with_set : Rows
  with_set = inserted r (set_row locator)

  set_rows : IsRows with_set
  set_rows = still_inserted r (set_row locator) rows (omega (arith, room)) refl

  pub one_rows : IsRows (with_flood locator r s)
  one_rows = still_inserted with_set (flood_row s (next_id r)) set_rows (omega (arith, room)) refl

  pub one_stays : (k : Key) (row : Contents) → row_at r k ≡ Some row → row_at (with_flood locator r s) k ≡ Some row
  one_stays k row is = stays_there with_set (flood_row s (next_id r)) set_rows (omega (arith, room)) k row (stays_there r (set_row locator) rows (omega (arith, room)) k row is)

  pub set_there : row_at (with_flood locator r s) (PhysicalLocatorSet, next_id r) ≡ Some (set_row locator)
  set_there = stays_there with_set (flood_row s (next_id r)) set_rows (omega (arith, room)) (PhysicalLocatorSet, next_id r) (set_row locator) (new_there r (set_row locator))

  pub flood_there : row_at (with_flood locator r s) (McastMacsLocal, next_id with_set) ≡ Some (flood_row s (next_id r))
  flood_there = new_there with_set (flood_row s (next_id r))

-- ---- the rows of several

-- a new row of a bound switch, whose set has the locator alone
pub record IsNewFlood (locator : ℕ) (after : Rows) (ss : List ℕ) (k : Key) (row : Contents) : Type 0 where
  pub table : k.0 ≡ McastMacsLocal
  pub switch : ℕ
  pub bound : IsIn switch ss
  pub set : ℕ
  pub set_is : row_at after (PhysicalLocatorSet, set) ≡ Some (set_row locator)
  pub row_is : row ≡ flood_row switch set

-- its set
pub record IsNewSet (locator : ℕ) (ss : List ℕ) (k : Key) (row : Contents) : Type 0 where
  pub table : k.0 ≡ PhysicalLocatorSet
  pub switch : ℕ
  pub bound : IsIn switch ss
  pub row_is : row ≡ set_row locator

abbrev pub IsNew : ℕ → Rows → List ℕ → Key → Contents → Type 0
IsNew locator after ss k row = IsNewSet locator ss k row ⊎ IsNewFlood locator after ss k row

room_now : (locator : ℕ) (r : Rows) (s : ℕ) (ss : List ℕ) → (with_floods locator r (s ∷ ss)).counter ≤ last_number → r.counter + 1 < last_number
room_now locator r s ss fits =
    let more : r.counter + 1 + 1 ≤ (with_floods locator (with_flood locator r s) ss).counter = floods_number locator (with_flood locator r s) ss in
    omega (arith, more, fits)

pub floods_rows : (locator : ℕ) (r : Rows) (ss : List ℕ) → IsRows r → (with_floods locator r ss).counter ≤ last_number → IsRows (with_floods locator r ss)
floods_rows locator r [] rows fits = rows
floods_rows locator r (s ∷ ss) rows fits = floods_rows locator (with_flood locator r s) ss (one_rows locator r s rows (room_now locator r s ss fits)) fits

pub floods_stay : (locator : ℕ) (r : Rows) (ss : List ℕ) → IsRows r → (with_floods locator r ss).counter ≤ last_number → (k : Key) (row : Contents) → row_at r k ≡ Some row → row_at (with_floods locator r ss) k ≡ Some row
floods_stay locator r [] rows fits k row is = is
floods_stay locator r (s ∷ ss) rows fits k row is =
    let room = room_now locator r s ss fits in
    floods_stay locator (with_flood locator r s) ss (one_rows locator r s rows room) fits k row (one_stays locator r s rows room k row is)

later_new : (locator : ℕ) (after : Rows) (s : ℕ) (ss : List ℕ) (k : Key) (row : Contents) → IsNew locator after ss k row → IsNew locator after (s ∷ ss) k row
later_new locator after s ss k row (inl set) = inl (record { table = set.table; switch = set.switch; bound = inr set.bound; row_is = set.row_is })
later_new locator after s ss k row (inr flood) = inr (record { table = flood.table; switch = flood.switch; bound = inr flood.bound; set = flood.set; set_is = flood.set_is; row_is = flood.row_is })

pub floods_new : (locator : ℕ) (r : Rows) (ss : List ℕ) → IsRows r → (with_floods locator r ss).counter ≤ last_number → (k : Key) (row : Contents) → row_at (with_floods locator r ss) k ≡ Some row
    → (row_at r k ≡ Some row) ⊎ IsNew locator (with_floods locator r ss) ss k row
floods_new locator r [] rows fits k row is = inl is
floods_new locator r (s ∷ ss) rows fits k row is =
    elim (floods_new locator (with_flood locator r s) ss (one_rows locator r s rows room) fits k row is) [
      | inr new ↦ inr (later_new locator after s ss k row new)
      | inl here ↦ elim (was_or_new (inserted r (set_row locator)) (flood_row s (next_id r)) k row here) [
        | inr flood ↦ inr (inr (record {
          table = ap (λ (q : Key). q.0) flood.0;
          switch = s;
          bound = inl refl;
          set = next_id r;
          set_is = floods_stay locator (with_flood locator r s) ss (one_rows locator r s rows room) fits (PhysicalLocatorSet, next_id r) (set_row locator) (set_there locator r s rows room);
          row_is = flood.1;
        }))
        | inl before ↦ elim (was_or_new r (set_row locator) k row before) [
          | inr set ↦ inr (inl (record { table = ap (λ (q : Key). q.0) set.0; switch = s; bound = inl refl; row_is = set.1 }))
          | inl old ↦ inl old
        ]
      ]
    ]
  where
    room : r.counter + 1 < last_number
    room = room_now locator r s ss fits

    after : Rows
    after = with_floods locator (with_flood locator r s) ss

-- each switch has its row
pub floods_have : (locator : ℕ) (r : Rows) (ss : List ℕ) → IsRows r → (with_floods locator r ss).counter ≤ last_number → (s : ℕ) → IsIn s ss → (i : ℕ) × (set : ℕ) × (row_at (with_floods locator r ss) (McastMacsLocal, i) ≡ Some (flood_row s set))
floods_have locator r [] rows fits s h = absurd h
floods_have locator r (x ∷ ss) rows fits s (inl same) =
    let room = room_now locator r x ss fits in (
      next_id (inserted r (set_row locator)),
      next_id r,
      floods_stay locator (with_flood locator r x) ss (one_rows locator r x rows room) fits (McastMacsLocal, next_id (inserted r (set_row locator))) (flood_row s (next_id r))
          (flood_there locator r x rows room ∙ ap (λ u. Some (flood_row u (next_id r))) (sym same)),
    )
floods_have locator r (x ∷ ss) rows fits s (inr later) = floods_have locator (with_flood locator r x) ss (one_rows locator r x rows (room_now locator r x ss fits)) fits s later
