-- Where the places of what was are emptied, and then what is is put, the state is that of the rows after.
use Rattle.std.proofs.Common.{◌≡◌, ◌⊎◌, inl, inr, ℕ, Bool, true, false, List, [], ◌∷◌, Option, Some, None, is_some, refl, sym, ap, ◌∙◌, subst}
use Rattle.std.specs.List.{list_all}
use Rattle.std.specs.Cmp.{first_so, second_so}
use Rattle.vtep_base.specs.Maps as maps
use Rattle.vtep_schema.specs.declared.Table.{Table}
use Rattle.vtep_schema.specs.declared.Table.TheVariants.{PhysicalPort, LogicalSwitch, UcastMacsRemote, McastMacsRemote, PhysicalLocatorSet, PhysicalLocator}
use Rattle.vtep_rows.specs.declared.differences.RowChange.{RowChange}
use Rattle.vtep_rows.specs.Row.{Contents, is_row, put_all}
use Rattle.vtep_rows.specs.Rows.{Rows, IsRows, rows_of, row_at}
use Rattle.vtep_rows.specs.Sound.{Sound}
use Rattle.vtep_rows.specs.Changes.{changes}
use Rattle.vtep_rows.proofs.Kept.{its_contents}
use Rattle.forward_program.specs.declared.spots.Spot.{Spot}
use Rattle.forward_program.specs.declared.held.Held.{Held}
use Rattle.forward_program.specs.Readings.{own_ip}
use Rattle.forward_program.specs.Built.{IsIn}
use Rattle.forward_program.specs.Spots.{Entries, spot_total}
use Rattle.forward_program.specs.Shown.{Entry, row_entries, table_entries, forward_tables, all_entries, rows_shown}
use Rattle.forward_program.specs.Follows.{entries_if, entries_before, entries_after, was_row, places, IsCleared}
use Rattle.forward_program.proofs.InLists.{in_flat, flat_in, in_map, map_in}
use Rattle.forward_program.proofs.RowsIn.{in_rows}
use Rattle.forward_program.proofs.MapLists.{in_has, from_entries, in_or_not, put_out, put_in}
use Rattle.forward_program.proofs.SpotOrder.{spot_exact}
use Rattle.forward_program.proofs.Given.{listed_given, by_row}
use Rattle.forward_program.proofs.Unique.{given_at}
use Rattle.forward_program.proofs.Homes.{home, Has, at_home, one_home}
use Rattle.forward_program.proofs.InChange.{never_same, IsOne, one_at, one_is, same_or_changed}

pub same_options : {X : Type 0} (a b : Option X) → ((x : X) → a ≡ Some x → b ≡ Some x) → ((x : X) → b ≡ Some x → a ≡ Some x) → a ≡ b
same_options None None f g = refl
same_options (Some x) b f g = sym (f x refl)
same_options None (Some y) f g = g y refl

all_in : {A : Type 0} (p : A → Bool) (x : A) (xs : List A) → list_all p xs ≡ true → IsIn x xs → p x ≡ true
all_in p x [] h is = absurd is
all_in p x (y ∷ xs) h (inl e) = ap p e ∙ first_so (p y) (list_all p xs) h
all_in p x (y ∷ xs) h (inr later) = all_in p x xs (second_so (p y) (list_all p xs) h) later

-- only rows of these tables have entries
in_forward : (own : ℕ) (t : Table) (e : ℕ × Contents) (x : Entry) → IsIn x (row_entries own t e) → IsIn t forward_tables
in_forward own PhysicalPort e x h = inl refl
in_forward own LogicalSwitch e x h = inr (inl refl)
in_forward own UcastMacsRemote e x h = inr (inr (inl refl))
in_forward own McastMacsRemote e x h = inr (inr (inr (inl refl)))
in_forward own PhysicalLocatorSet e x h = inr (inr (inr (inr (inl refl))))
in_forward own PhysicalLocator e x h = inr (inr (inr (inr (inr (inl refl)))))
in_forward own _ e x h = absurd h

-- the row of an entry
pub record RowOf (r : Rows) (own : ℕ) (x : Entry) : Type 0 where
  pub table : Table
  pub id : ℕ
  pub row : Contents
  pub at : row_at r (table, id) ≡ Some row
  pub has : IsIn x (row_entries own table (id, row))

module _ (r : Rows) (own : ℕ) (is_own : own_ip r ≡ own) where
  listed_row : (x : Entry) → IsIn x (all_entries r) → RowOf r own x
  listed_row x h =
      let t = in_flat (table_entries r) x forward_tables h in
      let e = in_flat (row_entries (own_ip r) t.0) x (rows_of t.0 r) t.2 in
      record {
        table = t.0;
        id = e.0.0;
        row = e.0.1;
        at = in_rows r t.0 e.0 e.1;
        has = subst (λ n. IsIn x (row_entries n t.0 e.0)) is_own e.2;
      }

  row_listed : (x : Entry) → RowOf r own x → IsIn x (all_entries r)
  row_listed x e =
      by_row r x e.table e.id e.row (in_forward own e.table (e.id, e.row) x e.has) e.at
      (subst (λ n. IsIn x (row_entries n e.table (e.id, e.row))) (sym is_own) e.has)

module _ (before now : Rows) (sound_before : Sound before) (rows : IsRows now) (sound : Sound now) (own : ℕ) (own_before : own_ip before ≡ own) (own_now : own_ip now ≡ own)
    (change : List RowChange) (is : change ≡ changes before now) (fit : list_all (λ c. was_row c.old) change ≡ true) where
  -- an entry of a row that does not differ
  record Kept (x : Entry) : Type 0 where
    pub table : Table
    pub id : ℕ
    pub row : Contents
    pub was : row_at before (table, id) ≡ Some row
    pub at : row_at now (table, id) ≡ Some row
    pub has : IsIn x (row_entries own table (id, row))

  kept_now : (x : Entry) → Kept x → IsIn x (all_entries now)
  kept_now x k = row_listed now own own_now x (record { table = k.table; id = k.id; row = k.row; at = k.at; has = k.has })

  kept_before : (x : Entry) → Kept x → IsIn x (all_entries before)
  kept_before x k = row_listed before own own_before x (record { table = k.table; id = k.id; row = k.row; at = k.was; has = k.has })

  one_of : (c : RowChange) → IsIn c change → IsOne before now c
  one_of c h = one_is before now c (subst (λ (cs : List RowChange). IsIn c cs) is h)

  -- what came is shown
  came : (x : Entry) (c : RowChange) (o : Option Contents) → c.new ≡ row_at now (c.table, c.id) → c.new ≡ o → IsIn x (entries_if own c.table c.id o) → IsIn x (all_entries now)
  came x c None at e h = absurd h
  came x c (Some row) at e h = row_listed now own own_now x (record { table = c.table; id = c.id; row = row; at = sym at ∙ e; has = h })

  after_shown : (x : Entry) → IsIn x (entries_after own change) → IsIn x (all_entries now)
  after_shown x h =
      let c = in_flat (λ (y : RowChange). entries_if own y.table y.id y.new) x change h in
      came x c.0 c.0.new (one_of c.0 c.1).1 refl c.2

  -- what is shown came, or stayed
  now_from : (x : Entry) → IsIn x (all_entries now) → IsIn x (entries_after own change) ⊎ Kept x
  now_from x h = let e = listed_row now own own_now x h in elim (same_or_changed before now (e.table, e.id)) [
    | inl same ↦ inr (record { table = e.table; id = e.id; row = e.row; was = same ∙ e.at; at = e.at; has = e.has })
    | inr there ↦ inl (flat_in (λ (y : RowChange). entries_if own y.table y.id y.new) x (one_at before now (e.table, e.id)) change (subst (λ (cs : List RowChange). IsIn (one_at before now (e.table, e.id)) cs) (sym is) there)
        (subst (λ o. IsIn x (entries_if own e.table e.id o)) (sym e.at) e.has))
  ]

  -- what was shown went, or stayed
  before_from : (x : Entry) → IsIn x (all_entries before) → IsIn x (entries_before own change) ⊎ Kept x
  before_from x h = let e = listed_row before own own_before x h in elim (same_or_changed before now (e.table, e.id)) [
    | inl same ↦ inr (record { table = e.table; id = e.id; row = e.row; was = e.at; at = sym same ∙ e.at; has = e.has })
    | inr there ↦ inl (flat_in (λ (y : RowChange). entries_if own y.table y.id y.old) x (one_at before now (e.table, e.id)) change (subst (λ (cs : List RowChange). IsIn (one_at before now (e.table, e.id)) cs) (sym is) there)
        (subst (λ o. IsIn x (entries_if own e.table e.id o)) (sym e.at) e.has))
  ]

  -- ---- what stays has none of the places that are emptied

  same_home : (c : RowChange) (a : Contents) (y x : Entry) → IsOne before now c → c.old ≡ Some a → is_row a ≡ true → IsIn y (row_entries own c.table (c.id, a)) → x.0 ≡ y.0 → Kept x → ⊥
  same_home c a y x one was fits h same k =
      let there = at_home own c.table (c.id, a) y h in
      let here = at_home own k.table (k.id, k.row) x k.has in
      let table : c.table ≡ k.table = there.0 ∙ ap home (sym same) ∙ sym here.0 in
      let id : c.id ≡ k.id = one_home before sound_before x.0 c.id k.id a k.row fits (its_contents now k.table k.id k.row rows k.at)
      (ap (λ (t : Table). row_at before (t, c.id)) (sym (there.0 ∙ ap home (sym same))) ∙ sym one.0 ∙ was) (ap (λ (t : Table). row_at before (t, k.id)) (sym here.0) ∙ k.was)
      (subst (λ (s : Spot). Has s (c.id, a)) (sym same) there.1) here.1 in
      never_same c.old c.new
      (one.0 ∙ (λ i. row_at before (table i, id i)) ∙ k.was ∙ sym k.at ∙ sym (λ i. row_at now (table i, id i)) ∙ sym one.1) one.2

  gone_by : (c : RowChange) (o : Option Contents) (y x : Entry) → IsOne before now c → c.old ≡ o → was_row o ≡ true → IsIn y (entries_if own c.table c.id o) → x.0 ≡ y.0 → Kept x → ⊥
  gone_by c None y x one was fits h same k = h
  gone_by c (Some a) y x one was fits h same k = same_home c a y x one was fits h same k

  gone_or_kept : (x : Entry) → IsIn x.0 (places (entries_before own change)) → Kept x → ⊥
  gone_or_kept x h k =
      let y = in_map (λ (e : Entry). e.0) x.0 (entries_before own change) h in
      let c = in_flat (λ (z : RowChange). entries_if own z.table z.id z.old) y.0 change y.1 in
      gone_by c.0 c.0.old y.0 x (one_of c.0 c.1) refl (all_in (λ (z : RowChange). was_row z.old) c.0 change fit c.1) c.2 y.2 k

  -- ---- each place

  abbrev gone : List Spot
  gone = places (entries_before own change)

  abbrev staying : List Spot
  staying = places (entries_after own change)

  shown_now : (k : Spot) (h : Held) → IsIn (k, h) (all_entries now) → maps.get (rows_shown now) k ≡ Some h
  shown_now k h there = given_at now rows sound k h (listed_given now k h there)

  no_longer : (k : Spot) → IsIn k gone → (IsIn k staying → ⊥) → maps.get (rows_shown now) k ≡ None
  no_longer k went out = by (maps.get (rows_shown now) k) refl
    where
      by : (o : Option Held) → maps.get (rows_shown now) k ≡ o → o ≡ None
      by None e = refl
      by (Some h) e = absurd (elim (now_from (k, h) (from_entries spot_total spot_exact (all_entries now) k h e)) [
        | inl new ↦ out (map_in (λ (y : Entry). y.0) (k, h) (entries_after own change) new)
        | inr kept ↦ gone_or_kept (k, h) went kept
      ])

  forth : (k : Spot) → (IsIn k gone → ⊥) → (h : Held) → maps.get (rows_shown before) k ≡ Some h → maps.get (rows_shown now) k ≡ Some h
  forth k still h e = elim (before_from (k, h) (from_entries spot_total spot_exact (all_entries before) k h e)) [
    | inl old ↦ absurd (still (map_in (λ (y : Entry). y.0) (k, h) (entries_before own change) old))
    | inr kept ↦ shown_now k h (kept_now (k, h) kept)
  ]

  back : (k : Spot) → (IsIn k gone → ⊥) → (IsIn k staying → ⊥) → (h : Held) → maps.get (rows_shown now) k ≡ Some h → maps.get (rows_shown before) k ≡ Some h
  back k still out h e = elim (now_from (k, h) (from_entries spot_total spot_exact (all_entries now) k h e)) [
    | inl new ↦ absurd (out (map_in (λ (y : Entry). y.0) (k, h) (entries_after own change) new))
    | inr kept ↦ by (maps.get (rows_shown before) k) refl (in_has spot_total (all_entries before) maps.empty k h (kept_before (k, h) kept))
  ]
    where
      by : (o : Option Held) → maps.get (rows_shown before) k ≡ o → maps.has (rows_shown before) k ≡ true → maps.get (rows_shown before) k ≡ Some h
      by None was there = let clash : false ≡ true = ap is_some (sym was) ∙ there in cc
      by (Some l) was there = was ∙ sym (forth k still l was) ∙ e

  -- a place of a row that differs is as in the rows after it, and each other place as it was
  pub at_place : (m n p : Entries) → IsCleared m n gone staying → p ≡ put_all n (entries_after own change) → (k : Spot)
      → ((IsIn k gone ⊎ IsIn k staying) × (maps.get p k ≡ maps.get (rows_shown now) k)) ⊎ ((IsIn k gone → ⊥) × (IsIn k staying → ⊥) × (maps.get p k ≡ maps.get m k) × (maps.get (rows_shown before) k ≡ maps.get (rows_shown now) k))
  at_place m n p cleared put k = by (in_or_not spot_total spot_exact k staying)
    where
      left : (IsIn k staying → ⊥) → maps.get p k ≡ maps.get n k → (IsIn k gone × (maps.get n k ≡ None)) ⊎ ((IsIn k gone → ⊥) × (maps.get n k ≡ maps.get m k))
          → ((IsIn k gone ⊎ IsIn k staying) × (maps.get p k ≡ maps.get (rows_shown now) k)) ⊎ ((IsIn k gone → ⊥) × (IsIn k staying → ⊥) × (maps.get p k ≡ maps.get m k) × (maps.get (rows_shown before) k ≡ maps.get (rows_shown now) k))
      left out same (inl h) = inl (inl h.0, same ∙ h.1 ∙ sym (no_longer k h.0 out))
      left out same (inr h) = inr (h.0, out, same ∙ h.1, same_options (maps.get (rows_shown before) k) (maps.get (rows_shown now) k) (forth k h.0) (back k h.0 out))

      by : IsIn k staying ⊎ (IsIn k staying → ⊥) → ((IsIn k gone ⊎ IsIn k staying) × (maps.get p k ≡ maps.get (rows_shown now) k)) ⊎ ((IsIn k gone → ⊥) × (IsIn k staying → ⊥) × (maps.get p k ≡ maps.get m k) × (maps.get (rows_shown before) k ≡ maps.get (rows_shown now) k))
      by (inl there) =
          let x = put_in spot_total spot_exact (entries_after own change) n k there in
          inl (inr there, ap (λ (q : Entries). maps.get q k) put ∙ x.2 ∙ sym (shown_now k x.0 (after_shown (k, x.0) x.1)))
      by (inr out) = left out (ap (λ (q : Entries). maps.get q k) put ∙ put_out spot_total spot_exact (entries_after own change) n k out) (cleared k out)
