-- What is left once the rows of some keys went.
use Rattle.std.proofs.Common.{◌≡◌, ℕ, Bool, true, false, cond, ◌&&◌, ◌||◌, List, [], ◌∷◌, is_some, Option, Some, None, refl, sym, ap, ◌∙◌, true≢false}
use Rattle.std.specs.List.{list_any}
use Rattle.std.specs.Ordering.{eq_by_cmp}
use Rattle.std.specs.FinMap.Entries.{find-where_key}
use Rattle.vtep_base.specs.Maps as maps
use Rattle.ovsdb_values.specs.declared.atoms.Atom.{Atom}
use Rattle.vtep_schema.specs.declared.Table.{Table}
use Rattle.vtep_schema.specs.Tables.{same_table}
use Rattle.vtep_rows.specs.Row.{Contents}
use Rattle.vtep_rows.specs.Rows.{Key, key_cmp, Rows, row_at, removed}
use Rattle.vtep_rows.specs.Orders.{key_total, key_exact}
use Rattle.vtep_rows.specs.Keyed.{holds_there}
use Rattle.vtep_rows.proofs.Kept.{same_table_exact, same_table_itself}
use Rattle.vtep_rows.proofs.Restored.{itself, tied}
use Rattle.local_tables.specs.LocalRows.{row_with}
use Rattle.local_tables.specs.Followed.{picked}
use Rattle.local_tables.specs.Following.{without_by, without_row, without_rows}
use Rattle.local_tables.proofs.Keyed.{HasKey, IsKeyed, first_has, has_first, keyed_part}

pub at_picked : (p : Key → Bool) (r : Rows) (k : Key) → row_at (picked p r) k ≡ cond (p k) (row_at r k) None
at_picked p r k = find-where_key key_cmp p k (λ x tie. ap p (sym (key_exact k x tie))) r.rows.list

-- the row at this place has the key
abbrev pub has_at : Table → Rows → List Atom → Key → Bool
has_at t r key k = same_table k.0 t && holds_there t key (row_at r k)

abbrev pub has_one_at : Table → Rows → List (List Atom) → Key → Bool
has_one_at t r keys k = same_table k.0 t && list_any (λ key. holds_there t key (row_at r k)) keys

-- no row
abbrev pub nobody : Option Contents
nobody = None

none_if : {X : Type 0} (b : Bool) (x : Option X) → b ≡ false → x ≡ cond b None x
none_if b x e = sym (ap (λ c. cond c None x) e)

gone_if : {X : Type 0} (b : Bool) (x : Option X) → b ≡ true → None ≡ cond b None x
gone_if b x e = sym (ap (λ c. cond c None x) e)

at_removed : (r : Rows) (k q : Key) → row_at (removed r k) q ≡ cond (eq_by_cmp key_cmp q k) None (row_at r q)
at_removed r k q = maps.get-remove key_total r.rows k q

module _ (t : Table) (r : Rows) (key : List Atom) (keyed : IsKeyed r t) where
  held_there : (k : Key) → has_at t r key k ≡ true → HasKey r t key k.1
  held_there k h = by (same_table k.0 t) refl (row_at r k) refl h
    where
      by : (b : Bool) → same_table k.0 t ≡ b → (o : Option Contents) → row_at r k ≡ o → (b && holds_there t key o) ≡ true → HasKey r t key k.1
      by true same (Some row) is g = record { row = row; there = ap (λ u. row_at r (u, k.1)) (sym (same_table_exact k.0 t same)) ∙ is; held = g }
      by true same None is g = absurd (true≢false (sym g))
      by false apart o is g = absurd (true≢false (sym g))

  there_held : (i : ℕ) → HasKey r t key i → has_at t r key (t, i) ≡ true
  there_held i h = (λ j. same_table_itself t j && holds_there t key (h.there j)) ∙ h.held

  none_left : (o : Option ℕ) → row_with t key r ≡ o → (k : Key) → row_at (without_by t r o) k ≡ cond (has_at t r key k) None (row_at r k)
  none_left None none k = by (has_at t r key k) refl
    where
      by : (b : Bool) → has_at t r key k ≡ b → row_at r k ≡ cond (has_at t r key k) None (row_at r k)
      by true h = absurd (true≢false (sym (has_first r t key k.1 (held_there k h)) ∙ ap is_some none))
      by false h = none_if (has_at t r key k) (row_at r k) h
  none_left (Some id) found k = at_removed r (t, id) k ∙ by (eq_by_cmp key_cmp k (t, id)) refl (has_at t r key k) refl
    where
      first : HasKey r t key id
      first = first_has r t key id found

      by : (b : Bool) → eq_by_cmp key_cmp k (t, id) ≡ b → (c : Bool) → has_at t r key k ≡ c → cond b None (row_at r k) ≡ cond c None (row_at r k)
      by true tie true h = refl
      by true tie false h = absurd (true≢false (sym (ap (has_at t r key) (tied k (t, id) tie) ∙ there_held id first) ∙ h))
      by false tie false h = refl
      by false apart true h =
          let here = held_there k h in
          let same_id : k.1 ≡ id = keyed key k.1 id here first in
          absurd (true≢false (sym (itself (t, id)) ∙ sym (ap (λ (q : Key). eq_by_cmp key_cmp q (t, id)) (its_key k h same_id)) ∙ apart))
        where
          its_key : (q : Key) → has_at t r key q ≡ true → q.1 ≡ id → q ≡ (t, id)
          its_key q g same = at (same_table q.0 t) refl g
            where
              at : (b : Bool) → same_table q.0 t ≡ b → (b && holds_there t key (row_at r q)) ≡ true → q ≡ (t, id)
              at true is f = λ i. (same_table_exact q.0 t is i, same i)
              at false is f = absurd (true≢false (sym f))

  pub row_gone : (k : Key) → row_at (without_row t r key) k ≡ cond (has_at t r key k) None (row_at r k)
  row_gone k = none_left (row_with t key r) refl k

  pub row_left : (i : ℕ) (row : Contents) → row_at (without_row t r key) (t, i) ≡ Some row → row_at r (t, i) ≡ Some row
  row_left i row is = by (has_at t r key (t, i)) refl (sym (row_gone (t, i)) ∙ is)
    where
      by : (b : Bool) → has_at t r key (t, i) ≡ b → cond b None (row_at r (t, i)) ≡ Some row → row_at r (t, i) ≡ Some row
      by true e h = cc
      by false e h = h

pub rows_gone : (t : Table) (r : Rows) (keys : List (List Atom)) → IsKeyed r t → (k : Key) → row_at (without_rows t r keys) k ≡ cond (has_one_at t r keys k) None (row_at r k)
rows_gone t r [] keyed k = none_if (same_table k.0 t && false) (row_at r k) (off (same_table k.0 t))
  where
    off : (b : Bool) → (b && false) ≡ false
    off true = refl
    off false = refl
rows_gone t r (key ∷ keys) keyed k =
    rows_gone t (without_row t r key) keys (keyed_part r (without_row t r key) t (row_left t r key keyed) keyed) k
    ∙ ap (λ o. cond (same_table k.0 t && list_any (λ key. holds_there t key o) keys) None o) (row_gone t r key keyed k)
    ∙ joined (same_table k.0 t) (row_at r k) (holds_there t key (row_at r k))
  where
    nothing : (s : Bool) (ks : List (List Atom)) → (s && list_any (λ key. holds_there t key None) ks) ≡ false
    nothing true [] = refl
    nothing true (x ∷ ks) = nothing true ks
    nothing false ks = refl

    joined : (s : Bool) (o : Option Contents) (h : Bool)
        → cond (s && list_any (λ key. holds_there t key (cond (s && h) None o)) keys) None (cond (s && h) None o) ≡ cond (s && (h || list_any (λ key. holds_there t key o) keys)) None o
    joined true o true = ap (λ b. cond b None nobody) (nothing true keys)
    joined true o false = refl
    joined false o h = refl

-- nothing but rows of these keys goes
pub others_stay : (t : Table) (r : Rows) (keys : List (List Atom)) → IsKeyed r t → (k : Key) → same_table k.0 t ≡ false → row_at (without_rows t r keys) k ≡ row_at r k
others_stay t r keys keyed k apart = rows_gone t r keys keyed k ∙ ap (λ s. cond (s && list_any (λ key. holds_there t key (row_at r k)) keys) None (row_at r k)) apart

pub all_left : (t : Table) (r : Rows) (keys : List (List Atom)) → IsKeyed r t → (k : Key) (row : Contents) → row_at (without_rows t r keys) k ≡ Some row → row_at r k ≡ Some row
all_left t r keys keyed k row is = by (has_one_at t r keys k) (sym (rows_gone t r keys keyed k) ∙ is)
  where
    by : (b : Bool) → cond b None (row_at r k) ≡ Some row → row_at r k ≡ Some row
    by true h = cc
    by false h = h

-- the counter and the address stay
pub same_counter : (t : Table) (r : Rows) (keys : List (List Atom)) → (without_rows t r keys).counter ≡ r.counter
same_counter t r [] = refl
same_counter t r (key ∷ keys) = same_counter t (without_row t r key) keys ∙ by (row_with t key r)
  where
    by : (o : Option ℕ) → (without_by t r o).counter ≡ r.counter
    by None = refl
    by (Some id) = refl

pub same_made : (t : Table) (r : Rows) (keys : List (List Atom)) → (without_rows t r keys).made ≡ r.made
same_made t r [] = refl
same_made t r (key ∷ keys) = same_made t (without_row t r key) keys ∙ by (row_with t key r)
  where
    by : (o : Option ℕ) → (without_by t r o).made ≡ r.made
    by None = refl
    by (Some id) = refl
